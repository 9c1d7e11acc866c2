-- What rows are with a row and without one, by the place that the search found.
use Rattle.std.proofs.Common.{◌≡◌, ℕ, ◌+◌, List, [], ◌∷◌, ◌++◌, take, drop, set, get_or, true, false, Some, None, ap, sym, ◌∙◌, subst}
use Rattle.std.specs.List.{AllByRecursion, insert, remove}
use Rattle.std.specs.List.Sorted.{IsNonDecreasingBy}
use Rattle.std.specs.declared.cmp.Ordering.TheVariants.{Less, Equal}
use Rattle.std.specs.Option.{option_map}
use Rattle.std.proofs.lemmas.Option.{slice_get-get_or, slice_get_within, get_or_from_slice_get}
use Rattle.std.specs.Ordering.{is_eq, ordering_index}
use Rattle.list_facts.specs.Places.{IsAt, IsGapFor}
use Rattle.list_facts.proofs.Halving.{split_at, set-parts}
use Rattle.list_facts.proofs.Pairs.{Pairs-before}
use Rattle.list_facts.proofs.Sets.{only-part, only-one}
use Rattle.list_facts.proofs.SetPlaces.{set-searchable}
use Rattle.list_facts.proofs.SetPlaces as sets
use Rattle.list_facts.proofs.Tests.{none-kept}
use Rattle.partial_path.specs.PathSets.{FileRules}
use Rattle.version_tree.specs.Views.{path_at, file_at, file_with}
use Rattle.version_tree.specs.Contents.{FileRow, file_row, path_cmp, IsInOrder, has_path, with_row, without_row}
use Rattle.version_tree.specs.Places.{beside, IsRowWith}
use Rattle.version_tree.proofs.Order.{path_total, same_path, tied}
use Rattle.version_tree.proofs.Parts.{Comes, IsLow, IsHigh}

-- rows in order can be searched by halving
pub searchable : (path : List ℕ) (rows : List FileRow) → IsInOrder rows → IsNonDecreasingBy (λ (row : FileRow). ordering_index (beside path row)) rows
searchable path rows up = set-searchable path_total (λ (row : FileRow). row.path) path rows up

-- what stands before a row, in order
pub before-row : (f b : List FileRow) (row : FileRow) → IsInOrder (f ++ row ∷ b) → AllByRecursion (λ (early : FileRow). path_cmp early.path row.path ≡ Less) f
before-row f b row up = Pairs-before Comes row f b up

module _ (path : List ℕ) (f b : List FileRow) (row : FileRow) (tie : beside path row ≡ Equal) where
  pub low-before : IsInOrder (f ++ row ∷ b) → IsLow path f
  low-before up = sets.low-before path_total (λ (row : FileRow). row.path) path row f b tie up

  pub high-after : IsInOrder (f ++ row ∷ b) → IsHigh path b
  high-after up = sets.high-after path_total (λ (row : FileRow). row.path) path row f b tie up

module _ (path : List ℕ) (rows : List FileRow) (i : ℕ) where
  pub at-has : IsAt (beside path) rows i → has_path path rows ≡ true
  at-has place = sets.at-has path_total (λ (row : FileRow). row.path) path rows i place

  module _ (place : IsAt (beside path) rows i) (up : IsInOrder rows) where
    pub at-with : (file : FileRules) → with_row path file rows ≡ take i rows ++ file_row path file ∷ drop (i + 1) rows
    at-with file = sets.at-with path_total (λ (row : FileRow). row.path) path rows i place up (file_row path file)

    pub at-parts : without_row path rows ≡ take i rows ++ drop (i + 1) rows
    at-parts = sets.at-parts path_total (λ (row : FileRow). row.path) path rows i place up

    pub at-without : without_row path rows ≡ remove rows i
    at-without = sets.at-without path_total (λ (row : FileRow). row.path) path rows i place up

  module _ (gap : IsGapFor (beside path) rows i) where
    pub gap-has : has_path path rows ≡ false
    gap-has = sets.gap-has path_total (λ (row : FileRow). row.path) path rows i gap

    pub gap-with : (file : FileRules) → with_row path file rows ≡ insert rows i (file_row path file)
    gap-with file = sets.gap-with path_total (λ (row : FileRow). row.path) path rows i gap (file_row path file)

    pub gap-without : without_row path rows ≡ rows
    gap-without = sets.gap-without path_total (λ (row : FileRow). row.path) path rows i gap

-- a row in place of one with its path, and a row that goes where there is none
pub put-at : (row : FileRow) (path : List ℕ) (rows : List FileRow) (i : ℕ) → path ≡ row.path → IsAt (beside path) rows i → IsInOrder rows → set rows i row ≡ with_row row.path row.file rows
put-at row path rows i e place up =
    set-parts rows i row place.in_range
    ∙ sym (at-with row.path rows i (subst (λ (p : List ℕ). IsAt (beside p) rows i) e place) up row.file)

pub put-gap : (row : FileRow) (path : List ℕ) (rows : List FileRow) (i : ℕ) → path ≡ row.path → IsGapFor (beside path) rows i → insert rows i row ≡ with_row row.path row.file rows
put-gap row path rows i e gap = sym (gap-with row.path rows i (subst (λ (p : List ℕ). IsGapFor (beside p) rows i) e gap) row.file)

pub at-path : (path : List ℕ) (rows : List FileRow) (i : ℕ) → IsAt (beside path) rows i → path_at rows i ≡ Some path
at-path path rows i place =
    ap (option_map (λ (row : FileRow). row.path)) (slice_get-get_or rows i place.item place.in_range ∙ ap Some (place.here place.item))
    ∙ ap Some (same_path place.item.path path place.tie)

-- the row that the search found
pub row-at : (path : List ℕ) (rows : List FileRow) (i : ℕ) (row : FileRow) → IsAt (beside path) rows i → row ≡ get_or rows i row → IsRowWith path rows row
row-at path rows i row place is = record {
  named = ap (λ (r : FileRow). r.path) (is ∙ place.here row) ∙ same_path place.item.path path place.tie;
  place = i;
  there = slice_get-get_or rows i row place.in_range ∙ ap Some (sym is);
}

-- the file at the path, by the row that has it
pub file-found : (path : List ℕ) (rows : List FileRow) (row : FileRow) → IsInOrder rows → IsRowWith path rows row → file_with path rows ≡ Some row.file
file-found path rows row up found =
    let i = found.place in
    let lt = slice_get_within rows i row found.there in
    let split : rows ≡ take i rows ++ row ∷ drop (i + 1) rows =
    split_at rows i row lt ∙ ap (λ x. take i rows ++ x ∷ drop (i + 1) rows) (get_or_from_slice_get rows i row row found.there) in
    let tie : beside path row ≡ Equal = ap (λ p. path_cmp p path) found.named ∙ tied path in
    let up-split = subst IsInOrder split up in
    ap (file_with path) split
    ∙ ap (λ (rs : List FileRow). file_at rs 0)
    (only-part (beside path) (take i rows) (row ∷ []) (drop (i + 1) rows) (low-before path (take i rows) (drop (i + 1) rows) row tie up-split) (high-after path (take i rows) (drop (i + 1) rows) row tie up-split)
    ∙ only-one (beside path) row tie)

pub file-absent : (path : List ℕ) (rows : List FileRow) → has_path path rows ≡ false → file_with path rows ≡ None
file-absent path rows e = ap (λ (rs : List FileRow). file_at rs 0) (none-kept (λ (row : FileRow). is_eq (path_cmp row.path path)) rows e)
