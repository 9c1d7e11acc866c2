-- What all rows are with a row and without one, by the block that its path goes to, and what other rows in the place
-- of that block's make of the blocks.
use Rattle.std.proofs.Common.{◌≡◌, ℕ, ◌+◌, ◌<◌, ◌≤◌, List, [], ◌∷◌, ◌++◌, length, get_or, take, drop, arith, ap, sym, ◌∙◌, subst, cond, append-nil, not, length-append, length-take, length-drop, slice_get, Option, None, Some, MatchOption, false}
use Rattle.std.specs.List.{AllByRecursion, filter}
use Rattle.std.specs.Ordering.{is_lt, is_eq, is_gt}
use Rattle.std.specs.declared.cmp.Ordering.TheVariants.{Less, Equal, Greater}
use Rattle.std.proofs.lemmas.List.{take_more}
use Rattle.std.proofs.lemmas.List.Elements.{filter-append}
use Rattle.partial_path.specs.PathSets.{FileRules}
use Rattle.grants.specs.Covers.{Rules, covers}
use Rattle.version_tree.specs.Contents.{FileRow, file_row, IsInOrder, HaveSets, has_path, with_row, without_row, covered}
use Rattle.version_tree.specs.Verdict.{weight_of}
use Rattle.version_tree.specs.Places.{beside, IsRowWith}
use Rattle.version_tree.specs.Blocks.{IsBlock, all_rows, AreBlocks, IsBlockFor}
use Rattle.list_facts.proofs.Each.{all-left, all-right, all-append}
use Rattle.list_facts.proofs.Tests.{filter-short}
use Rattle.version_tree.proofs.Parts.{with-part, without-part, has-part, HasSet}
use Rattle.list_facts.proofs.Halving.{split_at}
use Rattle.version_tree.proofs.Weights.{weight-append}
use Rattle.version_tree.proofs.Joined.{rows-append, rows-parts, slice_get-left, slice_get-right}

-- the block at a place, and the blocks around it
module _ (blocks : List (List FileRow)) (i : ℕ) (m : List FileRow) (lt : i < length blocks) (here : m ≡ get_or blocks i m) where
  pub around : blocks ≡ take i blocks ++ m ∷ drop (i + 1) blocks
  around = split_at blocks i m lt ∙ ap (λ x. take i blocks ++ x ∷ drop (i + 1) blocks) (sym here)

  pub rows-around : all_rows blocks ≡ all_rows (take i blocks) ++ (m ++ all_rows (drop (i + 1) blocks))
  rows-around = ap all_rows around ∙ rows-append (take i blocks) (m ∷ drop (i + 1) blocks)

-- by the block that a path goes to
module _ (path : List ℕ) (blocks : List (List FileRow)) (i : ℕ) (m : List FileRow) (place : IsBlockFor path blocks i) (here : m ≡ get_or blocks i m) where
  pub has-there : has_path path (all_rows blocks) ≡ has_path path m
  has-there = ap (has_path path) (rows-around blocks i m place.in_range here) ∙ has-part path (all_rows (take i blocks)) m (all_rows (drop (i + 1) blocks)) place.before place.after

  pub with-there : (file : FileRules) → with_row path file (all_rows blocks) ≡ all_rows (take i blocks) ++ (with_row path file m ++ all_rows (drop (i + 1) blocks))
  with-there file = ap (with_row path file) (rows-around blocks i m place.in_range here) ∙ with-part path (all_rows (take i blocks)) m (all_rows (drop (i + 1) blocks)) place.before place.after file

  pub without-there : without_row path (all_rows blocks) ≡ all_rows (take i blocks) ++ (without_row path m ++ all_rows (drop (i + 1) blocks))
  without-there = ap (without_row path) (rows-around blocks i m place.in_range here) ∙ without-part path (all_rows (take i blocks)) m (all_rows (drop (i + 1) blocks)) place.before place.after

-- the weights and the number of rows in three parts
weight-parts : (f m b : List FileRow) → weight_of (f ++ (m ++ b)) ≡ weight_of f + (weight_of m + weight_of b)
weight-parts f m b = weight-append f (m ++ b) ∙ ap (λ n. weight_of f + n) (weight-append m b)

length-parts : (f m b : List FileRow) → length (f ++ (m ++ b)) ≡ length f + (length m + length b)
length-parts f m b = length-append f (m ++ b) ∙ ap (λ n. length f + n) (length-append m b)

module _ (path : List ℕ) (blocks : List (List FileRow)) (i : ℕ) (m : List FileRow) (place : IsBlockFor path blocks i) (here : m ≡ get_or blocks i m) (w : ℕ) where
  pub weight-without-there : w + weight_of (without_row path m) ≡ weight_of m → w + weight_of (without_row path (all_rows blocks)) ≡ weight_of (all_rows blocks)
  weight-without-there e =
      let whole = ap weight_of (rows-around blocks i m place.in_range here) ∙ weight-parts (all_rows (take i blocks)) m (all_rows (drop (i + 1) blocks)) in
      let rest = ap weight_of (without-there path blocks i m place here) ∙ weight-parts (all_rows (take i blocks)) (without_row path m) (all_rows (drop (i + 1) blocks)) in
      omega (arith, whole, rest, e)

  pub weight-with-there : (file : FileRules) → w + weight_of (with_row path file m) ≡ weight_of m + file.weight → w + weight_of (with_row path file (all_rows blocks)) ≡ weight_of (all_rows blocks) + file.weight
  weight-with-there file e =
      let whole = ap weight_of (rows-around blocks i m place.in_range here) ∙ weight-parts (all_rows (take i blocks)) m (all_rows (drop (i + 1) blocks)) in
      let more = ap weight_of (with-there path blocks i m place here file) ∙ weight-parts (all_rows (take i blocks)) (with_row path file m) (all_rows (drop (i + 1) blocks)) in
      omega (arith, whole, more, e)

-- other rows in the place of a block's
module _ (blocks : List (List FileRow)) (i : ℕ) (m : List FileRow) (lt : i < length blocks) (here : m ≡ get_or blocks i m) where
  pub count-there : length (all_rows blocks) ≡ length (all_rows (take i blocks)) + (length m + length (all_rows (drop (i + 1) blocks)))
  count-there = ap length (rows-around blocks i m lt here) ∙ length-parts (all_rows (take i blocks)) m (all_rows (drop (i + 1) blocks))

  module _ (parts : List (List FileRow)) (rows : List FileRow) (same : all_rows parts ≡ rows) where
    pub rows-replaced : all_rows (take i blocks ++ (parts ++ drop (i + 1) blocks)) ≡ all_rows (take i blocks) ++ (rows ++ all_rows (drop (i + 1) blocks))
    rows-replaced = rows-parts (take i blocks) parts (drop (i + 1) blocks) ∙ ap (λ r. all_rows (take i blocks) ++ (r ++ all_rows (drop (i + 1) blocks))) same

    pub count-replaced : (n : ℕ) → n + length m ≡ length (all_rows blocks) → n + length rows ≡ length (all_rows (take i blocks ++ (parts ++ drop (i + 1) blocks)))
    count-replaced n e =
        let before = count-there in
        let after = ap length rows-replaced ∙ length-parts (all_rows (take i blocks)) rows (all_rows (drop (i + 1) blocks)) in
        omega (arith, before, after, e)

    pub sound-replaced : AreBlocks blocks → AllByRecursion IsBlock parts → HaveSets rows → IsInOrder (all_rows (take i blocks) ++ (rows ++ all_rows (drop (i + 1) blocks))) → AreBlocks (take i blocks ++ (parts ++ drop (i + 1) blocks))
    sound-replaced sound sizes sets up =
        let split = subst (AllByRecursion IsBlock) (around blocks i m lt here) sound.sizes in
        let kept = subst HaveSets (rows-around blocks i m lt here) sound.sets in
        record {
          sizes = all-append IsBlock (take i blocks) (parts ++ drop (i + 1) blocks) (all-left IsBlock (take i blocks) (m ∷ drop (i + 1) blocks) split)
              (all-append IsBlock parts (drop (i + 1) blocks) sizes (all-right IsBlock (take i blocks) (m ∷ drop (i + 1) blocks) split).1);
          order = subst IsInOrder (sym rows-replaced) up;
          sets = subst HaveSets (sym rows-replaced) (all-append HasSet (all_rows (take i blocks)) (rows ++ all_rows (drop (i + 1) blocks))
              (all-left HasSet (all_rows (take i blocks)) (m ++ all_rows (drop (i + 1) blocks)) kept)
              (all-append HasSet rows (all_rows (drop (i + 1) blocks)) sets
              (all-right HasSet m (all_rows (drop (i + 1) blocks)) (all-right HasSet (all_rows (take i blocks)) (m ++ all_rows (drop (i + 1) blocks)) kept))));
        }

-- the rows that a user may see, one block on
pub covered-more : (rules : Rules) (user : List ℕ) (blocks : List (List FileRow)) (i : ℕ) (m : List FileRow) → i < length blocks → m ≡ get_or blocks i m → covered rules user (all_rows (take (i + 1) blocks)) ≡ covered rules user (all_rows (take i blocks)) ++ covered rules user m
covered-more rules user blocks i m lt here =
    ap (λ (x : List (List FileRow)). covered rules user (all_rows x)) (take_more blocks i m lt ∙ ap (λ x. take i blocks ++ x ∷ []) (sym here))
    ∙ ap (covered rules user) (rows-append (take i blocks) (m ∷ []) ∙ ap (λ r. all_rows (take i blocks) ++ r) (append-nil m))
    ∙ filter-append (λ (row : FileRow). covers rules user row.path) (all_rows (take i blocks)) m

-- a row more at the most
lower-and-higher : (path : List ℕ) (rows : List FileRow) → length (filter (λ (row : FileRow). is_lt (beside path row)) rows) + length (filter (λ (row : FileRow). is_gt (beside path row)) rows) ≤ length rows
lower-and-higher path [] = omega arith
lower-and-higher path (row ∷ rows) =
    let rest = lower-and-higher path rows in
    elim (beside path row) as (λ o. length (cond (is_lt o) (row ∷ filter (λ (row : FileRow). is_lt (beside path row)) rows) (filter (λ (row : FileRow). is_lt (beside path row)) rows))
    + length (cond (is_gt o) (row ∷ filter (λ (row : FileRow). is_gt (beside path row)) rows) (filter (λ (row : FileRow). is_gt (beside path row)) rows)) ≤ length (row ∷ rows)) [
      | Less ↦ omega (arith, rest)
      | Equal ↦ omega (arith, rest)
      | Greater ↦ omega (arith, rest)
    ]

pub with-length : (path : List ℕ) (file : FileRules) (rows : List FileRow) → length (with_row path file rows) ≤ length rows + 1
with-length path file rows =
    let e = length-append (filter (λ (row : FileRow). is_lt (beside path row)) rows) (file_row path file ∷ filter (λ (row : FileRow). is_gt (beside path row)) rows) in
    let both = lower-and-higher path rows in
    omega (arith, e, both)

pub without-length : (path : List ℕ) (rows : List FileRow) → length (without_row path rows) ≤ length rows
without-length path rows = filter-short (λ (row : FileRow). not (is_eq (beside path row))) rows

-- the two halves of a block that has become too large
pub lower-half : (rows : List FileRow) → 64 < length rows → IsBlock (take 32 rows)
lower-half rows many =
    let e = length-take 32 rows in
    record { some = omega (arith, e, many); few = omega (arith, e, many) }

pub upper-half : (rows : List FileRow) → 64 < length rows → length rows ≤ 65 → IsBlock (drop 32 rows)
upper-half rows many few =
    let e = length-drop 32 rows in
    record { some = omega (arith, e, many); few = omega (arith, e, few) }

-- what the block that a path goes to tells of a row with the path, all rows tell
pub row-there : {R : Type 0} (now : R → FileRow) (path : List ℕ) (blocks : List (List FileRow)) (i : ℕ) (m : List FileRow)
    → IsBlockFor path blocks i → m ≡ get_or blocks i m → (o : Option R)
    → MatchOption o (has_path path m ≡ false) (λ r. IsRowWith path m (now r))
    → MatchOption o (has_path path (all_rows blocks) ≡ false) (λ r. IsRowWith path (all_rows blocks) (now r))
row-there now path blocks i m place here None e = has-there path blocks i m place here ∙ e
row-there now path blocks i m place here (Some r) found = record {
  named = found.named;
  place = length (all_rows (take i blocks)) + found.place;
  there = ap (λ rows. slice_get rows (length (all_rows (take i blocks)) + found.place)) (rows-around blocks i m place.in_range here)
      ∙ slice_get-right (all_rows (take i blocks)) (m ++ all_rows (drop (i + 1) blocks)) found.place
      ∙ slice_get-left m (all_rows (drop (i + 1) blocks)) found.place (now r) found.there;
}
