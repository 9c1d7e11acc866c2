-- Rules of one start stand as the heads of their first symbols do where these differ, and a head tells most that are
-- not offered.
use Rattle.std.proofs.Common.{◌≡◌, refl, sym, ◌∙◌, ap, subst, ℕ, ◌+◌, ◌*◌, ◌<◌, ◌≤◌, List, [], ◌∷◌, ◌++◌, length, get_or, drop, true, false, Option, Some, None, slice_get, arith, inl, inr}
use Rattle.std.specs.Prelude.{slice_index}
use Rattle.std.specs.List.{AllWithin}
use Rattle.std.specs.Str.{bytes_eq}
use Rattle.std.proofs.lemmas.Bool.{false≢true, cases_lt, and_left, and_right, and_from, false_from_ne_true}
use Rattle.std.proofs.lemmas.Bool.Decides.{nat_tests}
use Rattle.std.proofs.lemmas.Cmp.{nat_list_cmp_total, lists_total, tied_itself}
use Rattle.std.proofs.lemmas.List.{get_or_read, get_or_push, get_or_append_left}
use Rattle.std.proofs.lemmas.Slice.Eq.{bytes_eq-Decides}
use Rattle.std.specs.Ordering.{nat_cmp, ordering_index, ordering_then}
use Rattle.std.specs.Option.{option_cmp}
use Rattle.std.specs.declared.cmp.Ordering.{Ordering}
use Rattle.std.specs.declared.cmp.Ordering.TheVariants.{Less, Greater}
use Rattle.std.specs.Cmp.Lexicographic.{slice_cmp}
use Rattle.stacks_vars.specs.declared.items.SymbolItem.{SymbolItem}
use Rattle.stacks_vars.specs.Head.{IsHead, front, last_digit, head}
use Rattle.stacks_vars.proofs.HeadLaws.{heads_told}
use Rattle.partial_path.specs.declared.rule.Start.{Start}
use Rattle.partial_path.specs.Rules.{Rule}
use Rattle.partial_path.specs.Starts.{start_cmp, begins_at}
use Rattle.partial_path.specs.Keys.{key, key_cmp, texts, IsByKey}
use Rattle.partial_path.specs.Heads.{IsHeadAt, AreHeadsBelow, AreFirstHeads, AreLess, AreNoLess, Rise}
use Rattle.partial_path.specs.Inside.{slot_side, IsAfter}
use Rattle.partial_path.specs.Sources.{stand_first, is_offered}
use Rattle.partial_path.proofs.Orders.{start_eq_is}
use Rattle.partial_path.proofs.Halved.{side}
use Rattle.partial_path.proofs.KeyOrders.{key_step_suc, slots_rise}
use Rattle.partial_path.proofs.Standing.{equal_then, first_of, second_of}

-- no head is 0
pub some_head : (n : ℕ) (text : List ℕ) → IsHead n text → 0 < n
some_head n text is = by (front 7 text) (last_digit text) (omega arith) is.value
  where
    by : (m k : ℕ) → 0 < k → n ≡ m * 256 + k → 0 < n
    by m k some e = omega (arith, some, e)

-- texts, or none, stand as their heads do where these differ
nat_below : (a b : ℕ) (o : Ordering) → a < b → o ≡ nat_cmp a b → o ≡ Less
nat_below a b o less is = is ∙ grind (arith, nat_tests)

nat_above : (a b : ℕ) (o : Ordering) → b < a → o ≡ nat_cmp a b → o ≡ Greater
nat_above a b o more is = is ∙ grind (arith, nat_tests)

pub heads_differ : (a b : ℕ) (x y : Option (List ℕ)) (o : Ordering) → IsHeadAt a x → IsHeadAt b y → (a ≡ b → ⊥) → o ≡ nat_cmp a b → o ≡ option_cmp (slice_cmp nat_cmp) x y
heads_differ a b None None o p q other is = absurd (other (p ∙ sym q))
heads_differ a b None (Some y) o p q other is = nat_below a b o (let some = some_head b y q in omega (arith, p, some)) is
heads_differ a b (Some x) None o p q other is = nat_above a b o (let some = some_head a x p in omega (arith, q, some)) is
heads_differ a b (Some x) (Some y) o p q other is = heads_told a b x y o p q other is

-- a key whose first text stands behind that of another stands behind it
key_behind : (a b : List (List ℕ)) → option_cmp (slice_cmp nat_cmp) (slice_get a 0) (slice_get b 0) ≡ Greater → key_cmp a b ≡ Greater
key_behind a b e = key_step_suc a b 0 ∙ ap (λ o. ordering_then o (key_cmp (drop 1 a) (drop 1 b))) e

-- the heads of rules of one start in the order of their keys rise
module _ (d : Rule) (rules : List Rule) (start : Start) (heads : List ℕ) (low high : ℕ) (sorted : IsByKey rules) (within : high ≤ length rules)
    (begin : AllWithin (λ rule. begins_at start rule ≡ true) rules low high) (are : AreHeadsBelow (length rules) heads rules) where
  at_start : (k : ℕ) (asked : List (List ℕ)) → low ≤ k → k < high → slot_side start asked (get_or rules k d) ≡ key_cmp (key (get_or rules k d)) asked
  at_start k asked from below =
      equal_then (start_cmp (get_or rules k d).start start) (key_cmp (key (get_or rules k d)) asked) (sym (start_eq_is (get_or rules k d).start start) ∙ begin k d from below)

  no_fall : (i j : ℕ) → low ≤ i → i ≤ j → j < high → slice_index heads j < slice_index heads i → ⊥
  no_fall i j from le below less =
      let firsts = heads_differ (slice_index heads i) (slice_index heads j) (slice_get (key (get_or rules i d)) 0) (slice_get (key (get_or rules j d)) 0)
      (nat_cmp (slice_index heads i) (slice_index heads j)) (are i d (omega (arith, le, below, within))) (are j d (omega (arith, below, within))) (λ e. omega (arith, e, less)) refl in
      let behind : key_cmp (key (get_or rules i d)) (key (get_or rules j d)) ≡ Greater
      = key_behind (key (get_or rules i d)) (key (get_or rules j d)) (sym firsts ∙ nat_above _ _ _ less refl) in
      let one : side (slot_side start (key (get_or rules j d))) (get_or rules i d) ≡ 2
      = ap ordering_index (at_start i (key (get_or rules j d)) from (omega (arith, le, below)) ∙ behind) in
      let two : side (slot_side start (key (get_or rules j d))) (get_or rules j d) ≡ 1
      = ap ordering_index (at_start j (key (get_or rules j d)) (omega (arith, from, le)) below ∙ tied_itself (lists_total nat_list_cmp_total) (key (get_or rules j d))) in
      let rise : side (slot_side start (key (get_or rules j d))) (get_or rules i d) ≤ side (slot_side start (key (get_or rules j d))) (get_or rules j d)
      = slots_rise rules start (key (get_or rules j d)) sorted i j d le (omega (arith, below, within)) in
      omega (arith, one, two, rise)

  rise_by : Rise heads low high
  rise_by i j from le below = elim (cases_lt (slice_index heads j) (slice_index heads i)) [ inl less ↦ absurd (no_fall i j from le below less) | inr more ↦ more ]

pub heads_rise : (rules : List Rule) (start : Start) (heads : List ℕ) (low high : ℕ) → IsByKey rules → high ≤ length rules
    → AllWithin (λ rule. begins_at start rule ≡ true) rules low high → AreHeadsBelow (length rules) heads rules → Rise heads low high
heads_rise [] start heads low high sorted within begin are i j from le below = absurd (omega (arith, below, within))
heads_rise (x ∷ xs) start heads low high sorted within begin are i j from le below =
    rise_by x (x ∷ xs) start heads low high sorted within begin are i j from le below

-- a rule that asks for a symbol with another head than that of the stack's first one isn't offered
pub head_tells : (n w : ℕ) (rule : Rule) (start : Start) (symbols : List SymbolItem) → IsHeadAt n (slice_get (key rule) 0) → IsHeadAt w (slice_get (texts symbols) 0)
    → (n ≡ w → ⊥) → 1 ≤ n → is_offered start symbols rule ≡ false
head_tells n w rule start symbols p q other some = and_right (begins_at start rule) (stand_first (key rule) symbols) (by (key rule) symbols p q)
  where
    by : (asked : List (List ℕ)) (items : List SymbolItem) → IsHeadAt n (slice_get asked 0) → IsHeadAt w (slice_get (texts items) 0) → stand_first asked items ≡ false
    by [] items f g = absurd (omega (arith, f, some))
    by (t ∷ asked) [] f g = refl
    by (t ∷ asked) (s ∷ items) f g = and_left (bytes_eq t s.symbol) (stand_first asked items) (false_from_ne_true (bytes_eq t s.symbol) (λ e.
        other (f.value ∙ ap head ((bytes_eq-Decides t s.symbol).0 e) ∙ sym g.value)))

-- two that are offered and ask for symbols have one head
pub same_head : (n m : ℕ) (a b : Rule) (start : Start) (symbols : List SymbolItem) → IsHeadAt n (slice_get (key a) 0) → IsHeadAt m (slice_get (key b) 0)
    → 1 ≤ n → 1 ≤ m → is_offered start symbols a ≡ true → is_offered start symbols b ≡ true → n ≡ m
same_head n m a b start symbols p q some more one two =
    by (key a) (key b) symbols p q (second_of (begins_at start a) (stand_first (key a) symbols) one) (second_of (begins_at start b) (stand_first (key b) symbols) two)
  where
    by : (xs ys : List (List ℕ)) (items : List SymbolItem) → IsHeadAt n (slice_get xs 0) → IsHeadAt m (slice_get ys 0) → stand_first xs items ≡ true → stand_first ys items ≡ true → n ≡ m
    by [] ys items f g h k = absurd (omega (arith, f, some))
    by (t ∷ xs) [] items f g h k = absurd (omega (arith, g, more))
    by (t ∷ xs) (u ∷ ys) [] f g h k = absurd (false≢true h)
    by (t ∷ xs) (u ∷ ys) (s ∷ items) f g h k =
        f.value ∙ ap head ((bytes_eq-Decides t s.symbol).0 (first_of (bytes_eq t s.symbol) (stand_first xs items) h))
        ∙ sym (g.value ∙ ap head ((bytes_eq-Decides u s.symbol).0 (first_of (bytes_eq u s.symbol) (stand_first ys items) k)))

-- behind a rule that asks for a symbol none is offered where the next one has another head
pub head_after : (start : Start) (rules : List Rule) (heads : List ℕ) (place high next : ℕ) → place < high → high ≤ length rules → next ≡ length rules
    → AreHeadsBelow (length rules) heads rules → Rise heads place high → (slice_index heads place ≡ 0 → ⊥)
    → (slice_index heads (place + 1) ≡ slice_index heads place → ⊥) → IsAfter start rules place high next
head_after start rules heads place high next some within is are rise asks other = record {
  least = omega (arith, is, some, within);
  most = omega (arith, is);
  none = λ symbols offered k d far below early.
      let one : slice_index heads place ≤ slice_index heads (place + 1) = rise place (place + 1) (omega arith) (omega arith) (omega (arith, far, early)) in
      let two : slice_index heads (place + 1) ≤ slice_index heads k = rise (place + 1) k (omega arith) (omega (arith, far)) early in
      false_from_ne_true (is_offered start symbols (get_or rules k d)) (λ also.
      absurd (let same = same_head (slice_index heads place) (slice_index heads k) (get_or rules place d) (get_or rules k d) start symbols
      (are place d (omega (arith, some, within))) (are k d (omega (arith, early, within))) (omega (arith, asks)) (omega (arith, asks, one, two))
      (offered d) also in omega (arith, one, two, other, same)));
}

-- one of head 0 asks for nothing
pub none_asked : (n : ℕ) (rule : Rule) (start : Start) (symbols : List SymbolItem) → IsHeadAt n (slice_get (key rule) 0) → n ≡ 0 → begins_at start rule ≡ true
    → is_offered start symbols rule ≡ true
none_asked n rule start symbols p none begins = and_from (begins_at start rule) (stand_first (key rule) symbols) begins (by (key rule) p)
  where
    by : (asked : List (List ℕ)) → IsHeadAt n (slice_get asked 0) → stand_first asked symbols ≡ true
    by [] f = refl
    by (t ∷ asked) f = absurd (let some = some_head n t f in omega (arith, some, none))

-- one head more
pub heads_more : (heads : List ℕ) (rules : List Rule) (i h : ℕ) (x : Rule) → length heads ≡ i → i < length rules → x ≡ get_or rules i x → IsHeadAt h (slice_get (key x) 0)
    → AreHeadsBelow i heads rules → AreHeadsBelow (i + 1) (heads ++ h ∷ []) rules
heads_more heads rules i h x len within is one below k d lt = elim (cases_lt k i) [
  | inl low ↦
      subst (λ n. IsHeadAt n (slice_get (key (get_or rules k d)) 0)) (sym (get_or_append_left heads (h ∷ []) 0 k (omega (arith, low, len)))) (below k d low)
  | inr there ↦
      let same : k ≡ i = omega (arith, there, lt) in
      let here : x ≡ get_or rules k d = get_or_read rules i x within is d ∙ ap (λ n. get_or rules n d) (sym same) in
      subst (λ (r : Rule). IsHeadAt (slice_index (heads ++ h ∷ []) k) (slice_get (key r) 0)) here
      (subst (λ n. IsHeadAt n (slice_get (key x) 0)) (sym (get_or_push heads h 0 k (len ∙ sym same))) one)
]

pub no_heads : (heads : List ℕ) (rules : List Rule) → heads ≡ [] → AreFirstHeads heads rules
no_heads heads rules none same k d low = let size : length heads ≡ 0 = ap length none in absurd (omega (arith, size, same, low))

-- those less than one stand before the first place, those no less from the second on
pub record IsZone (heads : List ℕ) (from low end high wanted : ℕ) : Type 0 where
  pub least : from ≤ low
  pub order : low ≤ end
  pub most : end ≤ high
  pub less : AreLess heads from low wanted
  pub rest : AreNoLess heads end high wanted

pub zone_begun : (heads : List ℕ) (from high wanted : ℕ) → from < high → slice_index heads from < wanted → IsZone heads from (from + 1) high high wanted
zone_begun heads from high wanted some first = record {
  least = omega arith;
  order = omega (arith, some);
  most = omega arith;
  less = λ k low below. let same : from ≡ k = omega (arith, low, below) in subst (λ n. slice_index heads n < wanted) same first;
  rest = λ k low below. absurd (omega (arith, low, below));
}

pub zone_up : (heads : List ℕ) (from low end high wanted middle : ℕ) → Rise heads from high → IsZone heads from low end high wanted → low ≤ middle → middle < end
    → slice_index heads middle < wanted → IsZone heads from (middle + 1) end high wanted
zone_up heads from low end high wanted middle rise zone after before small = record {
  least = omega (arith, zone.least, after);
  order = omega (arith, before);
  most = zone.most;
  less = λ k least below.
      let up : slice_index heads k ≤ slice_index heads middle = rise k middle least (omega (arith, below)) (omega (arith, before, zone.most)) in
      omega (arith, up, small);
  rest = zone.rest;
}

pub zone_down : (heads : List ℕ) (from low end high wanted middle : ℕ) → Rise heads from high → IsZone heads from low end high wanted → low ≤ middle → middle < end
    → wanted ≤ slice_index heads middle → IsZone heads from low middle high wanted
zone_down heads from low end high wanted middle rise zone after before great = record {
  least = zone.least;
  order = after;
  most = omega (arith, before, zone.most);
  less = zone.less;
  rest = λ k least below.
      let up : slice_index heads middle ≤ slice_index heads k = rise middle k (omega (arith, zone.least, after)) least below in
      omega (arith, up, great);
}
