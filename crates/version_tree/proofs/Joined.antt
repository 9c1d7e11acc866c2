-- Rows in blocks: the block that a path goes to, and what all rows are with a row and without one, by that block.
use Rattle.std.proofs.Common.{◌≡◌, ℕ, zero, suc, ◌+◌, ◌-◌, ◌<◌, ◌≤◌, List, [], ◌∷◌, ◌++◌, length, get_or, take, drop, arith, ap, sym, ◌∙◌, subst, add-one, nat_eq, false, slice_get, Some, None, inl, inr, length-append}
use Rattle.std.specs.List.{AllByRecursion}
use Rattle.std.specs.Ordering.{ordering_index}
use Rattle.std.specs.List.Sorted.{IsNonDecreasingBy}
use Rattle.std.specs.declared.cmp.Ordering.TheVariants.{Less, Equal, Greater}
use Rattle.std.proofs.lemmas.List.{take_more, take-append-drop, at_drop_more, drop_all, get_or_append_left, get_or-append-add}
use Rattle.std.proofs.lemmas.Option.{slice_get_within, slice_get-get_or, get_or_from_slice_get, slice_get_cases, slice_get_past}
use Rattle.std.proofs.lemmas.List.Concat.{flat_map-append}
use Rattle.version_tree.specs.Contents.{FileRow, path_cmp, IsInOrder, HaveSets, AreRows}
use Rattle.list_facts.specs.Places.{IsAt, IsGapFor}
use Rattle.version_tree.specs.Places.{beside}
use Rattle.version_tree.specs.Blocks.{IsBlock, all_rows, AreBlocks, first_path, first_beside, IsBlockFor}
use Rattle.version_tree.proofs.Order.{path_total, less_flipped, greater_flipped}
use Rattle.list_facts.proofs.Each.{each, all-left, all-right}
use Rattle.list_facts.proofs.Pairs.{Pairs-right, Pairs-take, Pairs-drop}
use Rattle.version_tree.proofs.Parts.{Comes, IsLow, IsHigh, HasSet}
use Rattle.list_facts.proofs.Halving.{split_at, searchable}
use Rattle.version_tree.proofs.Found.{before-row, low-before, high-after}

-- the rows of blocks in parts
pub rows-append : (f b : List (List FileRow)) → all_rows (f ++ b) ≡ all_rows f ++ all_rows b
rows-append f b = flat_map-append (λ (block : List FileRow). block) f b

pub rows-parts : (f m b : List (List FileRow)) → all_rows (f ++ (m ++ b)) ≡ all_rows f ++ (all_rows m ++ all_rows b)
rows-parts f m b = rows-append f (m ++ b) ∙ ap (λ r. all_rows f ++ r) (rows-append m b)

pub order-right : (f b : List FileRow) → IsInOrder (f ++ b) → IsInOrder b
order-right f b up = Pairs-right Comes f b up

pub order-take : (n : ℕ) (rows : List FileRow) → IsInOrder rows → IsInOrder (take n rows)
order-take n rows up = Pairs-take Comes n rows up

pub sets-take : (n : ℕ) (rows : List FileRow) → HaveSets rows → HaveSets (take n rows)
sets-take n rows sets = all-left HasSet (take n rows) (drop n rows) (subst HaveSets (sym (take-append-drop n rows)) sets)

pub sets-drop : (n : ℕ) (rows : List FileRow) → HaveSets rows → HaveSets (drop n rows)
sets-drop n rows sets = all-right HasSet (take n rows) (drop n rows) (subst HaveSets (sym (take-append-drop n rows)) sets)

pub order-drop : (n : ℕ) (rows : List FileRow) → IsInOrder rows → IsInOrder (drop n rows)
order-drop n rows up = Pairs-drop Comes n rows up

pub rows-take : (n : ℕ) (rows : List FileRow) → AreRows rows → AreRows (take n rows)
rows-take n rows kept = record { order = order-take n rows kept.order; sets = sets-take n rows kept.sets }

pub rows-drop : (n : ℕ) (rows : List FileRow) → AreRows rows → AreRows (drop n rows)
rows-drop n rows kept = record { order = order-drop n rows kept.order; sets = sets-drop n rows kept.sets }

-- an element of two lists, one after the other
pub slice_get-left : {X : Type 0} (xs ys : List X) (k : ℕ) (x : X) → slice_get xs k ≡ Some x → slice_get (xs ++ ys) k ≡ Some x
slice_get-left xs ys k x e =
    let lt = slice_get_within xs k x e in
    let both = length-append xs ys in
    slice_get-get_or (xs ++ ys) k x (omega (arith, lt, both)) ∙ ap Some (get_or_append_left xs ys x k lt ∙ get_or_from_slice_get xs k x x e)

pub slice_get-right : {X : Type 0} (xs ys : List X) (k : ℕ) → slice_get (xs ++ ys) (length xs + k) ≡ slice_get ys k
slice_get-right xs ys k =
    let both = length-append xs ys in
    elim (slice_get_cases ys k).1 [
      | inl there ↦ let lt = there.1 in slice_get-get_or (xs ++ ys) (length xs + k) there.0 (omega (arith, lt, both)) ∙ ap Some (get_or-append-add xs ys k there.0 ∙ there.3) ∙ sym there.2
      | inr past ↦ let le = past.0 in slice_get_past (xs ++ ys) (length xs + k) (omega (arith, le, both)) ∙ sym past.1
    ]

-- a row of the blocks from one on: of that block, or of those after it
module _ (blocks : List (List FileRow)) (i : ℕ) (m : List FileRow) (lt : i < length blocks) (here : m ≡ get_or blocks i m) where
  rows-from : all_rows (drop i blocks) ≡ m ++ all_rows (drop (i + 1) blocks)
  rows-from = at_drop_more all_rows blocks i m lt ∙ ap (λ x. all_rows (x ∷ drop (i + 1) blocks)) (sym here)

  pub row-here : (left : ℕ) (row : FileRow) → slice_get m left ≡ Some row → slice_get (all_rows (drop i blocks)) left ≡ Some row
  row-here left row e = ap (λ rows. slice_get rows left) rows-from ∙ slice_get-left m (all_rows (drop (i + 1) blocks)) left row e

  pub row-later : (left : ℕ) → length m ≤ left → slice_get (all_rows (drop i blocks)) left ≡ slice_get (all_rows (drop (i + 1) blocks)) (left - length m)
  row-later left le =
      let sum : left ≡ length m + (left - length m) = omega (arith, le) in
      ap (slice_get (all_rows (drop i blocks))) sum ∙ ap (λ rows. slice_get rows (length m + (left - length m))) rows-from
      ∙ slice_get-right m (all_rows (drop (i + 1) blocks)) (left - length m)

pub row-none : (blocks : List (List FileRow)) (i left : ℕ) → length blocks ≤ i → slice_get (all_rows (drop i blocks)) left ≡ None
row-none blocks i left le = ap (λ bs. slice_get (all_rows bs) left) (drop_all i blocks le) ∙ slice_get_past [] left (omega arith)

-- the blocks rise by their first rows
rising : (blocks : List (List FileRow)) → AllByRecursion IsBlock blocks → IsInOrder (all_rows blocks) → (k : ℕ) (d : List FileRow) → k + 1 < length blocks → path_cmp (first_path (get_or blocks k d)) (first_path (get_or blocks (k + 1) d)) ≡ Less
rising [] sizes up k d lt = absurd (omega arith)
rising (b ∷ []) sizes up k d lt = absurd (omega arith)
rising ([] ∷ c ∷ blocks) sizes up k d lt = let some = sizes.0.some in absurd (omega (arith, some))
rising ((r ∷ rs) ∷ [] ∷ blocks) sizes up k d lt = let some = sizes.1.0.some in absurd (omega (arith, some))
rising ((r ∷ rs) ∷ (q ∷ qs) ∷ blocks) sizes up zero d lt = (all-right (λ (later : FileRow). path_cmp r.path later.path ≡ Less) rs (q ∷ (qs ++ all_rows blocks)) up.0).0
rising ((r ∷ rs) ∷ (q ∷ qs) ∷ blocks) sizes up (suc k) d lt =
    let e : suc k + 1 ≡ suc (k + 1) = omega arith in
    rw e (rising ((q ∷ qs) ∷ blocks) sizes.1 (order-right rs (q ∷ (qs ++ all_rows blocks)) up.1) k d (omega arith))

pub blocks-searchable : (path : List ℕ) (blocks : List (List FileRow)) → AreBlocks blocks → IsNonDecreasingBy (λ (b : List FileRow). ordering_index (first_beside path b)) blocks
blocks-searchable path blocks sound = searchable path_total first_path blocks path (rising blocks sound.sizes sound.order)

-- before a row at or below the path all are lower, and from one above it on all are higher
low-under : (path : List ℕ) (f b : List FileRow) (row : FileRow) → beside path row ≡ Less → IsInOrder (f ++ row ∷ b) → IsLow path f
low-under path f b row lt up = each (λ (early : FileRow). path_cmp early.path row.path ≡ Less) (λ (early : FileRow). beside path early ≡ Less) (λ early e. path_total.trans early.path row.path path e lt) f (before-row f b row up)

high-over : (path : List ℕ) (row : FileRow) (b : List FileRow) → beside path row ≡ Greater → AllByRecursion (λ (later : FileRow). path_cmp row.path later.path ≡ Less) b → IsHigh path b
high-over path row b gt up = each (λ (later : FileRow). path_cmp row.path later.path ≡ Less) (λ (later : FileRow). beside path later ≡ Greater) (λ later e. less_flipped path later.path (path_total.trans path row.path later.path (greater_flipped row.path path gt) e)) b up

blocks-high : (path : List ℕ) (blocks : List (List FileRow)) → AllByRecursion IsBlock blocks → IsInOrder (all_rows blocks) → AllByRecursion (λ (b : List FileRow). first_beside path b ≡ Greater) blocks → IsHigh path (all_rows blocks)
blocks-high path [] sizes up h = tt
blocks-high path ([] ∷ blocks) sizes up h = let some = sizes.0.some in absurd (omega (arith, some))
blocks-high path ((row ∷ rows) ∷ blocks) sizes up h = (h.0, high-over path row (rows ++ all_rows blocks) h.0 up.0)

-- a block among the rows before and after it
module _ (path : List ℕ) (f b : List FileRow) where
  tie-low : (m : List FileRow) → IsBlock m → IsInOrder (f ++ (m ++ b)) → first_beside path m ≡ Equal → IsLow path f
  tie-low [] size up tie = let some = size.some in absurd (omega (arith, some))
  tie-low (row ∷ rows) size up tie = low-before path f (rows ++ b) row tie up

  tie-high : (m : List FileRow) → IsBlock m → IsInOrder (f ++ (m ++ b)) → first_beside path m ≡ Equal → IsHigh path b
  tie-high [] size up tie = let some = size.some in absurd (omega (arith, some))
  tie-high (row ∷ rows) size up tie = all-right (λ (later : FileRow). beside path later ≡ Greater) rows b (high-after path f (rows ++ b) row tie up)

  less-low : (m : List FileRow) → IsBlock m → IsInOrder (f ++ (m ++ b)) → first_beside path m ≡ Less → IsLow path f
  less-low [] size up lt = let some = size.some in absurd (omega (arith, some))
  less-low (row ∷ rows) size up lt = low-under path f (rows ++ b) row lt up

-- one block out of blocks
module _ (blocks f b : List (List FileRow)) (m : List FileRow) (split : blocks ≡ f ++ m ∷ b) (sound : AreBlocks blocks) where
  pub its-size : IsBlock m
  its-size = (all-right IsBlock f (m ∷ b) (subst (AllByRecursion IsBlock) split sound.sizes)).0

  pub its-place : all_rows blocks ≡ all_rows f ++ (m ++ all_rows b)
  its-place = ap all_rows split ∙ rows-append f (m ∷ b)

  pub its-order : IsInOrder (all_rows f ++ (m ++ all_rows b))
  its-order = subst IsInOrder its-place sound.order

-- where the search found a block that begins with the path, and where it found none
pub tie-place : (path : List ℕ) (blocks : List (List FileRow)) (i : ℕ) → AreBlocks blocks → IsAt (first_beside path) blocks i → IsBlockFor path blocks i
tie-place path blocks i sound place =
    let size = its-size blocks (take i blocks) (drop (i + 1) blocks) place.item place.split sound in
    let up = its-order blocks (take i blocks) (drop (i + 1) blocks) place.item place.split sound in
    record {
      in_range = place.in_range;
      before = tie-low path (all_rows (take i blocks)) (all_rows (drop (i + 1) blocks)) place.item size up place.tie;
      after = tie-high path (all_rows (take i blocks)) (all_rows (drop (i + 1) blocks)) place.item size up place.tie;
    }

under : (path : List ℕ) (blocks : List (List FileRow)) (k : ℕ) (m : List FileRow) → AreBlocks blocks → blocks ≡ take k blocks ++ m ∷ drop (k + 1) blocks → k < length blocks → first_beside path m ≡ Less → AllByRecursion (λ (b : List FileRow). first_beside path b ≡ Greater) (drop (k + 1) blocks) → IsBlockFor path blocks k
under path blocks k m sound split lt less above =
    let size = its-size blocks (take k blocks) (drop (k + 1) blocks) m split sound in
    let up = its-order blocks (take k blocks) (drop (k + 1) blocks) m split sound in
    record {
      in_range = lt;
      before = less-low path (all_rows (take k blocks)) (all_rows (drop (k + 1) blocks)) m size up less;
      after = blocks-high path (drop (k + 1) blocks)
          (all-right IsBlock (take k blocks) (m ∷ drop (k + 1) blocks) (subst (AllByRecursion IsBlock) split sound.sizes)).1
          (order-right m (all_rows (drop (k + 1) blocks)) (order-right (all_rows (take k blocks)) (m ++ all_rows (drop (k + 1) blocks)) up))
          above;
    }

last-less : (path : List ℕ) (blocks : List (List FileRow)) (k : ℕ) (d : List FileRow) → k < length blocks → AllByRecursion (λ (b : List FileRow). first_beside path b ≡ Less) (take (k + 1) blocks) → first_beside path (get_or blocks k d) ≡ Less
last-less path blocks k d lt low = (all-right (λ (b : List FileRow). first_beside path b ≡ Less) (take k blocks) (get_or blocks k d ∷ []) (subst (AllByRecursion (λ (b : List FileRow). first_beside path b ≡ Less)) (take_more blocks k d lt) low)).0

pub some-of : (n : ℕ) → nat_eq n 0 ≡ false → 0 < n
some-of zero e = cc
some-of (suc n) e = omega arith

before-first : (path : List ℕ) (blocks : List (List FileRow)) → AreBlocks blocks → 0 < length blocks → IsGapFor (first_beside path) blocks 0 → IsBlockFor path blocks 0
before-first path [] sound some gap = absurd (omega (arith, some))
before-first path (b ∷ blocks) sound some gap = record {
  in_range = some;
  before = tt;
  after = all-right (λ (row : FileRow). beside path row ≡ Greater) b (all_rows blocks) (blocks-high path (b ∷ blocks) sound.sizes sound.order gap.after);
}

pub gap-place : (path : List ℕ) (blocks : List (List FileRow)) (i : ℕ) → AreBlocks blocks → 0 < length blocks → IsGapFor (first_beside path) blocks i → IsBlockFor path blocks (i - 1)
gap-place path blocks zero sound some gap = before-first path blocks sound some gap
gap-place path blocks (suc k) sound some gap =
    let lt : k < length blocks = gap.in_range in
    let low = subst (λ n. AllByRecursion (λ (b : List FileRow). first_beside path b ≡ Less) (take n blocks)) (sym (add-one k)) gap.before in
    let high = subst (λ n. AllByRecursion (λ (b : List FileRow). first_beside path b ≡ Greater) (drop n blocks)) (sym (add-one k)) gap.after in
    let e : k ≡ suc k - 1 = omega arith in
    subst (λ n. IsBlockFor path blocks n) e (under path blocks k (get_or blocks k []) sound (split_at blocks k [] lt) lt (last-less path blocks k [] lt low) high)
