-- Rows in blocks that are seen, and where each of them stands.
use Rattle.std.proofs.Common.{◌≡◌, refl, sym, ◌∙◌, ap, subst, ℕ, zero, suc, ◌+◌, ◌-◌, ◌<◌, ◌≤◌, List, [], ◌∷◌, ◌++◌, length, take, drop, get_or, Some, arith, slice_get, append-nil, inl, inr, nat_eq, true, false, cond}
use Rattle.std.specs.List.{AllByRecursion}
use Rattle.std.specs.Option.{option_map}
use Rattle.std.proofs.lemmas.Bool.{cases_lt}
use Rattle.std.proofs.lemmas.List.{length-append, take_more, append_assoc}
use Rattle.std.proofs.lemmas.List.Elements.{filter-append}
use Rattle.std.proofs.lemmas.Option.{slice_get-get_or, slice_get_within, get_or_from_slice_get, same_Some, none-some}
use Rattle.std.specs.Prelude.{codes, ◌||◌}
use Rattle.std.specs.Str.{bytes_eq}
use Rattle.grants.specs.Covers.{Rules, covers, is_granted}
use Rattle.list_facts.specs.Places.{IsAt}
use Rattle.list_facts.proofs.Tests.{filter-short}
use Rattle.version_tree.specs.Contents.{FileRow, AreRows, covered}
use Rattle.version_tree.specs.Blocks.{IsBlock, AreBlocks, all_rows, IsBlockFor}
use Rattle.version_tree.specs.Places.{beside}
use Rattle.version_tree.specs.Views.{path_at}
use Rattle.version_tree.specs.Placed.{row_place, places_in, places_from, starts_from}
use Rattle.version_tree.specs.declared.view.RowPlace.{RowPlace}
use Rattle.version_tree.proofs.Parts.{filter-rows}
use Rattle.version_tree.proofs.Found.{at-path}
use Rattle.version_tree.proofs.Joined.{rows-append, slice_get-left, slice_get-right, some-of}
use Rattle.version_tree.proofs.ByBlock.{rows-around}

-- the operator sees all rows
operator-covers : (rules : Rules) (user path : List ℕ) → bytes_eq user (codes "operator") ≡ true → covers rules user path ≡ true
unfolding covers
operator-covers rules user path e = ap (λ b. b || is_granted rules user path) e

pub operator-sees : (rules : Rules) (user : List ℕ) (rows : List FileRow) → bytes_eq user (codes "operator") ≡ true → covered rules user rows ≡ rows
operator-sees rules user [] e = refl
operator-sees rules user (row ∷ rows) e =
    ap (λ b. cond b (row ∷ covered rules user rows) (covered rules user rows)) (operator-covers rules user row.path e) ∙ ap (λ r. row ∷ r) (operator-sees rules user rows e)

-- each block has a row at least
pub blocks-few : (blocks : List (List FileRow)) → AllByRecursion IsBlock blocks → length blocks ≤ length (all_rows blocks)
blocks-few [] sizes = omega arith
blocks-few (b ∷ blocks) sizes =
    let some = sizes.0.some in
    let rest = blocks-few blocks sizes.1 in
    let both = length-append b (all_rows blocks) in
    omega (arith, some, rest, both)

-- the block of the rows that are seen of one
pub seen-block : (rules : Rules) (user : List ℕ) (block kept : List FileRow) (n : ℕ) → IsBlock block → kept ≡ covered rules user block → n ≡ length kept → nat_eq n 0 ≡ false → IsBlock kept
seen-block rules user block kept n size is count some =
    let short = filter-short (λ (row : FileRow). covers rules user row.path) block in
    let same = ap length is in
    let few = size.few in
    let more = some-of n some in
    record { some = omega (arith, more, count); few = omega (arith, short, few, same) }

-- the blocks of the rows that are seen of all
pub seen-sound : (rules : Rules) (user : List ℕ) (blocks seen : List (List FileRow)) → AreBlocks blocks → AllByRecursion IsBlock seen → all_rows seen ≡ covered rules user (all_rows blocks) → AreBlocks seen
seen-sound rules user blocks seen sound sizes is =
    let rows = subst AreRows (sym is) (filter-rows (λ (row : FileRow). covers rules user row.path) (all_rows blocks) (record { order = sound.order; sets = sound.sets })) in
    record { sizes = sizes; order = rows.order; sets = rows.sets }

-- with one block more
module _ (blocks : List (List FileRow)) (i : ℕ) (d : List FileRow) (lt : i < length blocks) where
  pub rows-more : all_rows (take (i + 1) blocks) ≡ all_rows (take i blocks) ++ get_or blocks i d
  rows-more = ap all_rows (take_more blocks i d lt) ∙ rows-append (take i blocks) (get_or blocks i d ∷ []) ∙ ap (λ r. all_rows (take i blocks) ++ r) (append-nil (get_or blocks i d))

  pub seen-more : (rules : Rules) (user : List ℕ) → covered rules user (all_rows (take (i + 1) blocks)) ≡ covered rules user (all_rows (take i blocks)) ++ covered rules user (get_or blocks i d)
  seen-more rules user = ap (covered rules user) rows-more ∙ filter-append (λ (row : FileRow). covers rules user row.path) (all_rows (take i blocks)) (get_or blocks i d)

-- where the row stands that the search found in a block
pub place-there : (path : List ℕ) (blocks : List (List FileRow)) (i : ℕ) (m : List FileRow) (row : ℕ)
    → IsBlockFor path blocks i → m ≡ get_or blocks i m → IsAt (beside path) m row
    → path_at (all_rows blocks) (length (all_rows (take i blocks)) + row) ≡ Some path
place-there path blocks i m row place here at =
    let inside : slice_get m row ≡ Some (get_or m row at.item) = slice_get-get_or m row at.item at.in_range in
    let there : slice_get (all_rows blocks) (length (all_rows (take i blocks)) + row) ≡ slice_get m row
    = ap (λ rows. slice_get rows (length (all_rows (take i blocks)) + row)) (rows-around blocks i m place.in_range here)
    ∙ slice_get-right (all_rows (take i blocks)) (m ++ all_rows (drop (i + 1) blocks)) row
    ∙ slice_get-left m (all_rows (drop (i + 1) blocks)) row (get_or m row at.item) inside ∙ sym inside in
    ap (option_map (λ (r : FileRow). r.path)) there ∙ at-path path m row at

-- the places of so many rows of one block
places-length : (n k c : ℕ) → length (places_in n k c) ≡ c
places-length n k zero = refl
places-length n k (suc c) = ap suc (places-length n (k + 1) c)

in-block : (n k c i : ℕ) → i < c → slice_get (places_in n k c) i ≡ Some (row_place n (k + i))
in-block n k zero i lt = absurd (omega (arith, lt))
in-block n k (suc c) zero lt = let e : k ≡ k + 0 = omega arith in ap (λ r. Some (row_place n r)) e
in-block n k (suc c) (suc i) lt = let e : k + 1 + i ≡ k + suc i = omega arith in in-block n (k + 1) c i (omega (arith, lt)) ∙ ap (λ r. Some (row_place n r)) e

pub place-more : (n k c : ℕ) → places_in n k (c + 1) ≡ places_in n k c ++ row_place n (k + c) ∷ []
place-more n k zero = let e : k ≡ k + 0 = omega arith in ap (λ r. row_place n r ∷ []) e
place-more n k (suc c) =
    let e : k + 1 + c ≡ k + suc c = omega arith in
    let t : suc c + 1 ≡ suc (c + 1) = omega arith in
    ap (places_in n k) t ∙ ap (λ r. row_place n k ∷ r) (place-more n (k + 1) c ∙ ap (λ r. places_in n (k + 1) c ++ row_place n r ∷ []) e)

-- the place of each row
pub record IsPlaced (n : ℕ) (blocks : List (List FileRow)) (i : ℕ) : Type 0 where
  pub place : RowPlace
  pub block : List FileRow
  pub told : slice_get (places_from n blocks) i ≡ Some place
  pub number : n ≤ place.block
  pub found : slice_get blocks (place.block - n) ≡ Some block
  pub there : slice_get block place.row ≡ slice_get (all_rows blocks) i
  pub inside : place.row < length block

pub placed : (n : ℕ) (blocks : List (List FileRow)) (i : ℕ) → i < length (all_rows blocks) → IsPlaced n blocks i
placed n [] i lt = absurd (omega (arith, lt))
placed n (b ∷ blocks) i lt = elim (cases_lt i (length b)) [
  | inl low ↦
      let here : slice_get (places_in n 0 (length b)) i ≡ Some (row_place n (0 + i)) = in-block n 0 (length b) i low in
      let zero-plus : 0 + i ≡ i = omega arith in
      let first : 0 ≡ n - n = omega arith in
      let row : slice_get b i ≡ Some (get_or b i (first-row b i low)) = slice_get-get_or b i (first-row b i low) low in
      record {
        place = row_place n (0 + i);
        block = b;
        told = slice_get-left (places_in n 0 (length b)) (places_from (n + 1) blocks) i (row_place n (0 + i)) here;
        number = omega arith;
        found = ap (slice_get (b ∷ blocks)) (sym first);
        there = ap (slice_get b) zero-plus ∙ row ∙ sym (slice_get-left b (all_rows blocks) i (get_or b i (first-row b i low)) row);
        inside = omega (arith, low, zero-plus);
      }
  | inr high ↦
      let whole = length-append b (all_rows blocks) in
      let rest : i - length b < length (all_rows blocks) = omega (arith, lt, whole, high) in
      let sum : i ≡ length b + (i - length b) = omega (arith, high) in
      let deep = placed (n + 1) blocks (i - length b) rest in
      let size = places-length n 0 (length b) in
      let sum-2 : i ≡ length (places_in n 0 (length b)) + (i - length b) = omega (arith, sum, size) in
      let number = deep.number in
      let back : deep.place.block - n ≡ suc (deep.place.block - (n + 1)) = omega (arith, number) in
      record {
        place = deep.place;
        block = deep.block;
        told = ap (slice_get (places_from n (b ∷ blocks))) sum-2 ∙ slice_get-right (places_in n 0 (length b)) (places_from (n + 1) blocks) (i - length b) ∙ deep.told;
        number = omega (arith, number);
        found = ap (slice_get (b ∷ blocks)) back ∙ deep.found;
        there = deep.there ∙ sym (ap (slice_get (all_rows (b ∷ blocks))) sum ∙ slice_get-right b (all_rows blocks) (i - length b));
        inside = deep.inside;
      }
]
  where
    first-row : (rows : List FileRow) (k : ℕ) → k < length rows → FileRow
    first-row [] k h = absurd (omega (arith, h))
    first-row (r ∷ rows) k h = r

-- the place that the table tells of a row
pub record IsStanding (blocks : List (List FileRow)) (i : ℕ) (q : RowPlace) : Type 0 where
  pub block : q.block < length blocks
  pub row : (b : List FileRow) → slice_get blocks q.block ≡ Some b → q.row < length b
  pub there : (b : List FileRow) → slice_get blocks q.block ≡ Some b → slice_get b q.row ≡ slice_get (all_rows blocks) i

pub standing : (blocks : List (List FileRow)) (i : ℕ) (places : List RowPlace) (q : RowPlace) → places ≡ places_from 0 blocks → i < length (all_rows blocks) → q ≡ get_or places i q → IsStanding blocks i q
standing blocks i places q same lt is =
    let p = placed 0 blocks i lt in
    let told : slice_get places i ≡ Some p.place = ap (λ l. slice_get l i) same ∙ p.told in
    let eq : q ≡ p.place = is ∙ get_or_from_slice_get places i p.place q told in
    let number : p.place.block - 0 ≡ p.place.block = omega arith in
    let found : slice_get blocks p.place.block ≡ Some p.block = ap (slice_get blocks) (sym number) ∙ p.found in
    subst (IsStanding blocks i) (sym eq) (record {
      block = slice_get_within blocks p.place.block p.block found;
      row = λ b e. subst (λ (x : List FileRow). p.place.row < length x) (same_Some p.block b (sym found ∙ e)) p.inside;
      there = λ b e. ap (λ (x : List FileRow). slice_get x p.place.row) (same_Some b p.block (sym e ∙ found)) ∙ p.there;
    })

-- the places and starts of the first blocks
pub places-more : (n : ℕ) (blocks : List (List FileRow)) (i : ℕ) (d : List FileRow) → i < length blocks
    → places_from n (take (i + 1) blocks) ≡ places_from n (take i blocks) ++ places_in (n + i) 0 (length (get_or blocks i d))
places-more n [] i d lt = absurd (omega (arith, lt))
places-more n (b ∷ blocks) zero d lt = let e : n ≡ n + 0 = omega arith in append-nil (places_in n 0 (length b)) ∙ ap (λ k. places_in k 0 (length b)) e
places-more n (b ∷ blocks) (suc i) d lt =
    let e : n + 1 + i ≡ n + suc i = omega arith in
    let t : suc i + 1 ≡ suc (i + 1) = omega arith in
    ap (λ k. places_from n (take k (b ∷ blocks))) t
    ∙ ap (λ r. places_in n 0 (length b) ++ r) (places-more (n + 1) blocks i d (omega (arith, lt)) ∙ ap (λ k. places_from (n + 1) (take i blocks) ++ places_in k 0 (length (get_or blocks i d))) e)
    ∙ sym (append_assoc (places_in n 0 (length b)) (places_from (n + 1) (take i blocks)) (places_in (n + suc i) 0 (length (get_or blocks i d))))

pub starts-more : (n : ℕ) (blocks : List (List FileRow)) (i : ℕ) → i < length blocks
    → starts_from n (take (i + 1) blocks) ≡ starts_from n (take i blocks) ++ (n + length (all_rows (take i blocks))) ∷ []
starts-more n [] i lt = absurd (omega (arith, lt))
starts-more n (b ∷ blocks) zero lt = let e : n ≡ n + 0 = omega arith in ap (λ k. k ∷ []) e
starts-more n (b ∷ blocks) (suc i) lt =
    let t : suc i + 1 ≡ suc (i + 1) = omega arith in
    let both = length-append b (all_rows (take i blocks)) in
    let e : n + length b + length (all_rows (take i blocks)) ≡ n + length (b ++ all_rows (take i blocks)) = omega (arith, both) in
    ap (λ k. starts_from n (take k (b ∷ blocks))) t
    ∙ ap (λ r. n ∷ r) (starts-more (n + length b) blocks i (omega (arith, lt)) ∙ ap (λ k. starts_from (n + length b) (take i blocks) ++ k ∷ []) e)

pub places-all : (n : ℕ) (blocks : List (List FileRow)) → length (places_from n blocks) ≡ length (all_rows blocks)
places-all n [] = refl
places-all n (b ∷ blocks) =
    let one = length-append (places_in n 0 (length b)) (places_from (n + 1) blocks) in
    let two = length-append b (all_rows blocks) in
    let size = places-length n 0 (length b) in
    let rest = places-all (n + 1) blocks in
    omega (arith, one, two, size, rest)

pub starts-all : (n : ℕ) (blocks : List (List FileRow)) → length (starts_from n blocks) ≡ length blocks
starts-all n [] = refl
starts-all n (b ∷ blocks) = ap suc (starts-all (n + length b) blocks)

pub start-at : (n : ℕ) (blocks : List (List FileRow)) (i d : ℕ) → i < length blocks → get_or (starts_from n blocks) i d ≡ n + length (all_rows (take i blocks))
start-at n [] i d lt = absurd (omega (arith, lt))
start-at n (b ∷ blocks) zero d lt = let e : n ≡ n + 0 = omega arith in e
start-at n (b ∷ blocks) (suc i) d lt =
    let both = length-append b (all_rows (take i blocks)) in
    let rest = start-at (n + length b) blocks i d (omega (arith, lt)) in
    omega (arith, both, rest)

pub start-of : (blocks : List (List FileRow)) (i : ℕ) (starts : List ℕ) (start : ℕ) → starts ≡ starts_from 0 blocks → i < length blocks → start ≡ get_or starts i start → start ≡ length (all_rows (take i blocks))
start-of blocks i starts start same lt is =
    let e : 0 + length (all_rows (take i blocks)) ≡ length (all_rows (take i blocks)) = omega arith in
    is ∙ ap (λ l. get_or l i start) same ∙ start-at 0 blocks i start lt ∙ e

-- there is a row where a path is told
pub path-within : (path : List ℕ) (rows : List FileRow) (n : ℕ) → path_at rows n ≡ Some path → n < length rows
path-within path [] n e = absurd (none-some path e)
path-within path (row ∷ rows) zero e = omega arith
path-within path (row ∷ rows) (suc n) e = let lt = path-within path rows n e in omega (arith, lt)
