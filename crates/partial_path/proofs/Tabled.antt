-- The run of a start, as a table of starts tells it, and how such a table is made.
use Rattle.std.proofs.Common.{◌≡◌, refl, sym, ◌∙◌, ap, ℕ, ◌+◌, ◌-◌, ◌<◌, ◌≤◌, List, [], ◌∷◌, ◌++◌, length, take, drop, replicate, get_or, true, false, arith, inl, inr}
use Rattle.std.specs.Prelude.{nat_eq, nat_lt, slice_index}
use Rattle.std.proofs.lemmas.Bool.{cases_lt, and_parts, and_from, false_from_ne_true}
use Rattle.std.proofs.lemmas.Bool.Decides.{nat_tests}
use Rattle.std.proofs.lemmas.List.{length-append, length-replicate, get_or-replicate, get_or_append_left, get_or-append_right, get_or_read, take_all}
use Rattle.stacks_vars.specs.declared.scopes.NodeAt.{NodeAt}
use Rattle.stacks_vars.specs.Same.{node_eq}
use Rattle.partial_path.specs.declared.config.Spot.TheVariants as spot
use Rattle.partial_path.specs.declared.rule.Start.{Start}
use Rattle.partial_path.specs.declared.rule.Start.TheVariants.{Before, After}
use Rattle.partial_path.specs.Rules.{Rule}
use Rattle.partial_path.specs.Starts.{start_eq, begins_at, rules_at}
use Rattle.partial_path.specs.Tables.{has_node, has_place, place_in, AreCounts, AreTold, IsTable, IsTold}
use Rattle.partial_path.proofs.OfferedStored.{start_is}
use Rattle.partial_path.proofs.Kept.{kept_between}

-- starts of one place are the same
is_zero : (n : ℕ) → nat_eq n 0 ≡ true → n ≡ 0
is_zero n e = grind (arith, nat_tests, e)

is_less : (m n : ℕ) → nat_lt m n ≡ true → m < n
is_less m n e = grind (arith, nat_tests, e)

are_same : (m n : ℕ) → m ≡ n → nat_eq m n ≡ true
are_same m n e = grind (arith, nat_tests, e)

node_below : (nodes : ℕ) (a : NodeAt) → has_node nodes a ≡ true → a.node < nodes
node_below nodes a h = is_less a.node nodes (and_parts (nat_eq a.file 0) (nat_lt a.node nodes) h).1

nodes_same : (nodes : ℕ) (a b : NodeAt) → has_node nodes a ≡ true → has_node nodes b ≡ true → a.node ≡ b.node → node_eq a b ≡ true
nodes_same nodes a b p q e =
    let one : a.file ≡ 0 = is_zero a.file (and_parts (nat_eq a.file 0) (nat_lt a.node nodes) p).0 in
    let two : b.file ≡ 0 = is_zero b.file (and_parts (nat_eq b.file 0) (nat_lt b.node nodes) q).0 in
    and_from (nat_eq a.file b.file) (nat_eq a.node b.node) (are_same a.file b.file (one ∙ sym two)) (are_same a.node b.node e)

placed_same : (nodes : ℕ) (a b : Start) → has_place nodes a ≡ true → has_place nodes b ≡ true → place_in nodes a ≡ place_in nodes b → start_eq a b ≡ true
placed_same nodes (Before a) (Before b) p q e = nodes_same nodes a b p q e
placed_same nodes (Before a) (After spot.Root) p q e = absurd (let low = node_below nodes a p in omega (arith, low, e))
placed_same nodes (Before a) (After (spot.At b)) p q e = absurd (let low = node_below nodes a p in omega (arith, low, e))
placed_same nodes (After spot.Root) (Before b) p q e = absurd (let low = node_below nodes b q in omega (arith, low, e))
placed_same nodes (After spot.Root) (After spot.Root) p q e = refl
placed_same nodes (After spot.Root) (After (spot.At b)) p q e = absurd (omega (arith, e))
placed_same nodes (After (spot.At a)) (Before b) p q e = absurd (let low = node_below nodes b q in omega (arith, low, e))
placed_same nodes (After (spot.At a)) (After spot.Root) p q e = absurd (omega (arith, e))
placed_same nodes (After (spot.At a)) (After (spot.At b)) p q e = nodes_same nodes a b p q (omega (arith, e))

other_place : (nodes : ℕ) (a b : Start) → (place_in nodes a ≡ place_in nodes b → ⊥) → start_eq a b ≡ false
other_place nodes a b other = false_from_ne_true (start_eq a b) (λ t. other (ap (place_in nodes) (start_is a b t)))

-- what the table tells of a start is its run
module _ (d : Rule) (before : List ℕ) (nodes : ℕ) (rules : List Rule) (start : Start) (low high : ℕ) (counts : AreCounts before nodes (length rules) rules)
    (told : IsTold before nodes start low high) where
  first : place_in nodes start < length before
  first = omega (arith, told.within)

  in_order : low ≤ high
  in_order = elim (cases_lt high low) [
    | inl fall ↦
        let size : low ≤ length rules = (let b = counts.bound (place_in nodes start) first in omega (arith, b, told.low)) in
        let one = counts.less (place_in nodes start) high d first (omega (arith, fall, told.low)) (omega (arith, fall, size)) in
        let two = counts.more (place_in nodes start + 1) high d told.within (omega (arith, told.high)) (omega (arith, fall, size)) in
        absurd (omega (arith, one, two))
    | inr rise ↦ rise
  ]

  fits : high ≤ length rules
  fits = let b = counts.bound (place_in nodes start + 1) told.within in omega (arith, b, told.high)

  run_is_told : take (high - low) (drop low rules) ≡ rules_at start rules
  run_is_told = kept_between (begins_at start) rules low high in_order fits
      (λ k e from below.
      let less = counts.less (place_in nodes start) k e first (omega (arith, below, told.low)) (omega (arith, below, in_order, fits)) in
      other_place nodes (get_or rules k e).start start (λ same. omega (arith, less, same)))
      (λ k e from below.
      let more = counts.more (place_in nodes start) k e first (omega (arith, from, told.low)) (omega (arith, below, fits)) in
      let less = counts.less (place_in nodes start + 1) k e told.within (omega (arith, below, told.high)) (omega (arith, below, fits)) in
      placed_same nodes (get_or rules k e).start start (counts.placed k e (omega (arith, below, fits))) told.placed (omega (arith, more, less)))
      (λ k e from below.
      let more = counts.more (place_in nodes start + 1) k e told.within (omega (arith, from, told.high)) below in
      other_place nodes (get_or rules k e).start start (λ same. omega (arith, more, same)))

pub told_run : (before : List ℕ) (nodes : ℕ) (rules : List Rule) (start : Start) (low high : ℕ) → IsTable before nodes rules → IsTold before nodes start low high
    → (take (high - low) (drop low rules) ≡ rules_at start rules) × (low ≤ high) × (high ≤ length rules)
told_run before nodes [] start low high table told =
    let counts = table (omega (arith, told.within)) in
    let one : slice_index before (place_in nodes start) ≤ 0 = counts.bound (place_in nodes start) (omega (arith, told.within)) in
    let two : slice_index before (place_in nodes start + 1) ≤ 0 = counts.bound (place_in nodes start + 1) told.within in
    let none : high - low ≡ 0 = omega (arith, two, told.high) in
    (ap (λ n. take n (drop low [])) none, omega (arith, one, told.low), omega (arith, two, told.high))
told_run before nodes (x ∷ xs) start low high table told =
    let counts = table (omega (arith, told.within)) in
    (run_is_told x before nodes (x ∷ xs) start low high counts told, in_order x before nodes (x ∷ xs) start low high counts told, fits x before nodes (x ∷ xs) start low high counts told)

pub told_none : (before : List ℕ) (nodes : ℕ) (rules : List Rule) → before ≡ [] → AreTold before nodes 0 rules
told_none before nodes rules none =
    let size : length before ≡ 0 = ap length none in
    record {
      counts = record {
        placed = λ k d low. absurd (omega (arith, low));
        bound = λ p low. absurd (omega (arith, low, size));
        less = λ p k d low. absurd (omega (arith, low, size));
        more = λ p k d low. absurd (omega (arith, low, size));
      };
      below = λ k d low. absurd (omega (arith, low));
    }

pub no_table : (before : List ℕ) (nodes : ℕ) (rules : List Rule) → before ≡ [] → IsTable before nodes rules
no_table before nodes rules none some = let size : length before ≡ 0 = ap length none in absurd (omega (arith, some, size))

-- filled up to a place with the number of the rules so far
module _ (before after : List ℕ) (nodes n m : ℕ) (rules : List Rule) (so_far : AreTold before nodes n rules) (le : length before ≤ m)
    (is : after ≡ take m before ++ replicate (m - length before) n) where
  whole : after ≡ before ++ replicate (m - length before) n
  whole = is ∙ ap (λ ns. ns ++ replicate (m - length before) n) (take_all m before le)

  pub filled_size : length after ≡ m
  filled_size =
      let sum : length (before ++ replicate (m - length before) n) ≡ length before + length (replicate (m - length before) n) = length-append before (replicate (m - length before) n) in
      let more : length (replicate (m - length before) n) ≡ m - length before = length-replicate (m - length before) n in
      let same : length after ≡ length (before ++ replicate (m - length before) n) = ap length whole in
      omega (arith, same, sum, more, le)

  old_one : (p : ℕ) → p < length before → slice_index after p ≡ slice_index before p
  old_one p low = ap (λ ns. slice_index ns p) whole ∙ get_or_append_left before (replicate (m - length before) n) 0 p low

  new_one : (p : ℕ) → length before ≤ p → p < m → slice_index after p ≡ n
  new_one p from low =
      ap (λ ns. slice_index ns p) whole ∙ get_or-append_right before (replicate (m - length before) n) (length before) p 0 refl from
      ∙ get_or-replicate (m - length before) (p - length before) n 0 (omega (arith, from, low))

  pub filled : AreTold after nodes n rules
  filled = record {
    counts = record {
      placed = so_far.counts.placed;
      bound = λ p low. elim (cases_lt p (length before)) [
        | inl old ↦ (let b = so_far.counts.bound p old in omega (arith, b, old_one p old))
        | inr new ↦ (let e = new_one p new (omega (arith, low, filled_size)) in omega (arith, e))
      ];
      less = λ p k d low few within. elim (cases_lt p (length before)) [
        | inl old ↦ so_far.counts.less p k d old (omega (arith, few, old_one p old)) within
        | inr new ↦ (let b = so_far.below k d within in omega (arith, b, new))
      ];
      more = λ p k d low many within. elim (cases_lt p (length before)) [
        | inl old ↦ so_far.counts.more p k d old (omega (arith, many, old_one p old)) within
        | inr new ↦ absurd (let e = new_one p new (omega (arith, low, filled_size)) in omega (arith, e, many, within))
      ];
    };
    below = λ k d within. (let b = so_far.below k d within in omega (arith, b, le, filled_size));
  }

-- one rule more, at the last place
pub told_more : (before : List ℕ) (nodes n : ℕ) (rules : List Rule) (x : Rule) → n < length rules → x ≡ get_or rules n x → has_place nodes x.start ≡ true
    → length before ≡ place_in nodes x.start + 1 → AreTold before nodes n rules → AreTold before nodes (n + 1) rules
told_more before nodes n rules x within is placed size so_far =
    let this : (k : ℕ) (d : Rule) → n ≤ k → k < n + 1 → x ≡ get_or rules k d
    = λ k d from low. (let same : n ≡ k = omega (arith, from, low) in get_or_read rules n x within is d ∙ ap (λ i. get_or rules i d) same) in
    record {
      counts = record {
        placed = λ k d low. elim (cases_lt k n) [
          | inl old ↦ so_far.counts.placed k d old
          | inr new ↦ ap (λ (r : Rule). has_place nodes r.start) (sym (this k d new low)) ∙ placed
        ];
        bound = λ p low. (let b = so_far.counts.bound p low in omega (arith, b));
        less = λ p k d low few all. (let b = so_far.counts.bound p low in so_far.counts.less p k d low few (omega (arith, b, few)));
        more = λ p k d low many all. elim (cases_lt k n) [
          | inl old ↦ so_far.counts.more p k d low many old
          | inr new ↦ (let e : place_in nodes x.start ≡ place_in nodes (get_or rules k d).start = ap (λ (r : Rule). place_in nodes r.start) (this k d new all) in omega (arith, e, low, size))
        ];
      };
      below = λ k d low. elim (cases_lt k n) [
        | inl old ↦ so_far.below k d old
        | inr new ↦ (let e : place_in nodes x.start ≡ place_in nodes (get_or rules k d).start = ap (λ (r : Rule). place_in nodes r.start) (this k d new low) in omega (arith, e, size))
      ];
    }
