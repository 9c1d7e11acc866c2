-- The block in which the path at a place stands, by the places at which the blocks begin.
use Rattle.std.proofs.Common.{◌≡◌, sym, ◌∙◌, ap, ℕ, ◌+◌, ◌-◌, ◌<◌, ◌≤◌, Bool, List, [], ◌∷◌, ◌++◌, length, take, drop, get_or, true, false, Some, arith, slice_get, append-nil, inl, inr}
use Rattle.std.specs.Prelude.{nat_le, nat_lt}
use Rattle.std.specs.List.{prefix_len}
use Rattle.std.specs.List.Sorted.{IsPartitionedBy}
use Rattle.std.proofs.lemmas.Bool.{cases_lt, false_from_ne_true, true≢false}
use Rattle.std.proofs.lemmas.Bool.Decides.{nat_tests}
use Rattle.std.proofs.lemmas.List.{length-append, get_or_append_left, get_or-append-add, take_more, drop_all}
use Rattle.std.proofs.lemmas.List.Concat.{flat_map-append}
use Rattle.std.proofs.lemmas.List.Sums.{prefix_len_passes, prefix_len_stops, prefix_len-le-length}
use Rattle.std.proofs.lemmas.Option.{slice_get-get_or}
use Rattle.version_tree.proofs.Joined.{slice_get-left}
use Rattle.root_index.specs.Roots.{RootPath}
use Rattle.root_index.specs.Blocks.{AreStarts, IsPlaceIn, all_paths, begins_by}
use Rattle.root_index.proofs.InBlocks.{around, further}

le_from : (a b : ℕ) → nat_le a b ≡ true → a ≤ b
le_from a b e = grind (arith, nat_tests, e)

to_le : (a b : ℕ) → a ≤ b → nat_le a b ≡ true
to_le a b e = grind (arith, nat_tests, e)

not_le : (a b : ℕ) → nat_le a b ≡ false → b < a
not_le a b e = grind (arith, nat_tests, e)

to_lt : (a b : ℕ) → a < b → nat_lt a b ≡ true
to_lt a b h = grind (arith, nat_tests, h)

not_lt : (a b : ℕ) → b ≤ a → nat_lt a b ≡ false
not_lt a b h = grind (arith, nat_tests, h)

-- whether there is a block that has begun, by how many have
module _ {X : Type 0} (p : X → Bool) (starts : List X) where
  pub past_all : (k : ℕ) → length starts ≤ k → nat_lt k (length starts) ≡ nat_lt k (prefix_len p starts)
  past_all k h = let fits = prefix_len-le-length p starts in not_lt k (length starts) h ∙ sym (not_lt k (prefix_len p starts) (omega (arith, h, fits)))

  pub begun_is : (k : ℕ) (d : X) → IsPartitionedBy p starts → k < length starts → p (get_or starts k d) ≡ nat_lt k (prefix_len p starts)
  begun_is k d parted h = elim (cases_lt k (prefix_len p starts)) [
    | inl below ↦ prefix_len_passes p starts k d below ∙ sym (to_lt k (prefix_len p starts) below)
    | inr above ↦
        false_from_ne_true (p (get_or starts k d))
        (λ passes. true≢false (sym (parted (prefix_len p starts) k d above h passes) ∙ prefix_len_stops p starts d (omega (arith, above, h))))
        ∙ sym (not_lt k (prefix_len p starts) above)
  ]

pub starts_parted : (starts : List ℕ) (blocks : List (List RootPath)) (place : ℕ) → AreStarts starts blocks → IsPartitionedBy (begins_by place) starts
starts_parted starts blocks place are i j d le h e =
    let count = are.count in
    let low : get_or starts i d ≡ length (all_paths (take i blocks)) = are.each i d (omega (arith, le, h, count)) in
    let high : get_or starts j d ≡ length (all_paths (take j blocks)) = are.each j d (omega (arith, h, count)) in
    let more : length (all_paths (take i blocks)) ≤ length (all_paths (take j blocks)) = further blocks i j le in
    let below : get_or starts j d ≤ place = le_from (get_or starts j d) place e in
    to_le (get_or starts i d) place (omega (arith, low, high, more, below))

module _ (starts : List ℕ) (blocks : List (List RootPath)) (place n : ℕ) (are : AreStarts starts blocks) (inside : place < length (all_paths blocks))
    (found : n ≡ prefix_len (begins_by place) starts) where
  some_blocks : 0 < length blocks
  some_blocks = by blocks inside
    where
      by : (bs : List (List RootPath)) → place < length (all_paths bs) → 0 < length bs
      by [] h = absurd (omega (arith, h))
      by (b ∷ bs) h = omega arith

  pub one_begins : 1 ≤ n
  one_begins = elim (cases_lt 0 n) [
    | inl h ↦ h
    | inr h ↦
        let count = are.count in
        let some = some_blocks in
        let none : prefix_len (begins_by place) starts ≡ 0 = omega (arith, found, h) in
        let stop : begins_by place (get_or starts (prefix_len (begins_by place) starts) 0) ≡ false = prefix_len_stops (begins_by place) starts 0 (omega (arith, none, count, some)) in
        let first : get_or starts 0 0 ≡ 0 = are.each 0 0 some in
        let above : place < get_or starts 0 0 = not_le (get_or starts 0 0) place (ap (λ k. begins_by place (get_or starts k 0)) (sym none) ∙ stop) in
        absurd (omega (arith, first, above))
  ]

  block_inside : n - 1 < length blocks
  block_inside =
      let count = are.count in
      let one = one_begins in
      let fits : prefix_len (begins_by place) starts ≤ length starts = prefix_len-le-length (begins_by place) starts in
      omega (arith, count, one, fits, found)

  start_is : get_or starts (n - 1) 0 ≡ length (all_paths (take (n - 1) blocks))
  start_is = are.each (n - 1) 0 block_inside

  pub start_below : get_or starts (n - 1) 0 ≤ place
  start_below =
      let one = one_begins in
      le_from (get_or starts (n - 1) 0) place (prefix_len_passes (begins_by place) starts (n - 1) 0 (omega (arith, one, found)))

  whole_is : (m : List RootPath) → m ≡ get_or blocks (n - 1) m → all_paths blocks ≡ all_paths (take (n - 1) blocks) ++ (m ++ all_paths (drop (n - 1 + 1) blocks))
  whole_is m here = around blocks (n - 1) m block_inside ∙ ap (λ b. all_paths (take (n - 1) blocks) ++ (b ++ all_paths (drop (n - 1 + 1) blocks))) (sym here)

  place_inside : (m : List RootPath) → m ≡ get_or blocks (n - 1) m → place - get_or starts (n - 1) 0 < length m
  place_inside m here =
      let one = one_begins in
      let at = start_is in
      let next : n - 1 + 1 ≡ n = omega (arith, one) in
      let long : length (all_paths blocks) ≡ length (all_paths (take (n - 1) blocks)) + length (m ++ all_paths (drop (n - 1 + 1) blocks))
      = ap length (whole_is m here) ∙ length-append (all_paths (take (n - 1) blocks)) (m ++ all_paths (drop (n - 1 + 1) blocks)) in
      let rest : length (m ++ all_paths (drop (n - 1 + 1) blocks)) ≡ length m + length (all_paths (drop (n - 1 + 1) blocks)) = length-append m (all_paths (drop (n - 1 + 1) blocks)) in
      elim (cases_lt n (length blocks)) [
        | inl more ↦
            let count = are.count in
            let stop : begins_by place (get_or starts (prefix_len (begins_by place) starts) 0) ≡ false = prefix_len_stops (begins_by place) starts 0 (omega (arith, more, found, count)) in
            let above : place < get_or starts n 0 = not_le (get_or starts n 0) place (ap (λ k. begins_by place (get_or starts k 0)) found ∙ stop) in
            let later : get_or starts n 0 ≡ length (all_paths (take n blocks)) = are.each n 0 more in
            let grown : all_paths (take n blocks) ≡ all_paths (take (n - 1) blocks) ++ m
            = ap (λ k. all_paths (take k blocks)) (sym next) ∙ ap all_paths (take_more blocks (n - 1) m block_inside)
            ∙ flat_map-append (λ (b : List RootPath). b) (take (n - 1) blocks) (get_or blocks (n - 1) m ∷ [])
            ∙ ap (λ r. all_paths (take (n - 1) blocks) ++ r) (append-nil (get_or blocks (n - 1) m) ∙ sym here) in
            let sum : length (all_paths (take n blocks)) ≡ length (all_paths (take (n - 1) blocks)) + length m
            = ap length grown ∙ length-append (all_paths (take (n - 1) blocks)) m in
            let below = start_below in
            omega (arith, at, above, later, sum, below)
        | inr last ↦
            let none : all_paths (drop (n - 1 + 1) blocks) ≡ [] = ap all_paths (drop_all (n - 1 + 1) blocks (omega (arith, last, next))) in
            let zero_left : length (all_paths (drop (n - 1 + 1) blocks)) ≡ 0 = ap length none in
            let below = start_below in
            let within = inside in
            omega (arith, at, long, rest, zero_left, below, within)
      ]

  found_there : (m : List RootPath) (x : RootPath) → m ≡ get_or blocks (n - 1) m → x ≡ get_or m (place - get_or starts (n - 1) 0) x
      → slice_get (all_paths blocks) place ≡ Some x
  found_there m x here there =
      let at = start_is in
      let below = start_below in
      let inside_it : ℕ = place - get_or starts (n - 1) 0 in
      let within : inside_it < length m = place_inside m here in
      let split : place ≡ length (all_paths (take (n - 1) blocks)) + inside_it = omega (arith, at, below) in
      slice_get-get_or (all_paths blocks) place x inside
      ∙ ap Some (ap (λ k. get_or (all_paths blocks) k x) split
      ∙ ap (λ ps. get_or ps (length (all_paths (take (n - 1) blocks)) + inside_it) x) (whole_is m here)
      ∙ get_or-append-add (all_paths (take (n - 1) blocks)) (m ++ all_paths (drop (n - 1 + 1) blocks)) inside_it x
      ∙ get_or_append_left m (all_paths (drop (n - 1 + 1) blocks)) x inside_it within ∙ sym there)

  pub place_in : IsPlaceIn blocks place (n - 1) (place - get_or starts (n - 1) 0)
  place_in = record {
    in_range = block_inside;
    there = place_inside;
    path = found_there;
  }

-- the first of all paths
pub first_there : (blocks : List (List RootPath)) (m : List RootPath) (x : RootPath) → m ≡ get_or blocks 0 m → 0 < length (all_paths blocks) → slice_get m 0 ≡ Some x
    → slice_get (all_paths blocks) 0 ≡ Some x
first_there [] m x here some there = absurd (omega (arith, some))
first_there (b ∷ bs) m x here some there = slice_get-left b (all_paths bs) 0 x (ap (λ (ps : List RootPath). slice_get ps 0) (sym here) ∙ there)
