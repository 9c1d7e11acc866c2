-- The sum of the weights of rows, with a row and without one.
use Rattle.std.proofs.Common.{◌≡◌, ℕ, ◌+◌, List, [], ◌∷◌, ◌++◌, take, drop, ap, ◌∙◌, arith}
use Rattle.std.proofs.lemmas.List.{take-append-drop}
use Rattle.std.proofs.lemmas.List.Sums.{sum_by-append}
use Rattle.partial_path.specs.PathSets.{FileRules}
use Rattle.version_tree.specs.Contents.{FileRow, file_row, IsInOrder, with_row, without_row}
use Rattle.version_tree.specs.Verdict.{weight_of}
use Rattle.list_facts.specs.Places.{IsAt, IsGapFor}
use Rattle.version_tree.specs.Places.{beside}
use Rattle.version_tree.proofs.Found.{at-with, at-parts, gap-with, gap-without}

pub weight-append : (xs ys : List FileRow) → weight_of (xs ++ ys) ≡ weight_of xs + weight_of ys
weight-append xs ys = sum_by-append (λ (row : FileRow). row.file.weight) xs ys

pub weight-cons : (row : FileRow) (rows : List FileRow) → weight_of (row ∷ rows) ≡ row.file.weight + weight_of rows
weight-cons row rows = let e = weight-append (row ∷ []) rows in omega (arith, e)

pub weight-middle : (f b : List FileRow) (row : FileRow) → weight_of (f ++ row ∷ b) ≡ row.file.weight + weight_of (f ++ b)
weight-middle f b row =
    let whole = weight-append f (row ∷ b) in
    let rest = weight-append f b in
    let one = weight-cons row b in
    omega (arith, whole, rest, one)

module _ (path : List ℕ) (rows : List FileRow) (i : ℕ) where
  module _ (place : IsAt (beside path) rows i) (up : IsInOrder rows) where
    parts : weight_of rows ≡ place.item.file.weight + weight_of (take i rows ++ drop (i + 1) rows)
    parts = ap weight_of place.split ∙ weight-middle (take i rows) (drop (i + 1) rows) place.item

    pub at-weight-without : (w : ℕ) → w ≡ place.item.file.weight → w + weight_of (without_row path rows) ≡ weight_of rows
    at-weight-without w e = let p = parts in let q = ap weight_of (at-parts path rows i place up) in omega (arith, p, q, e)

    pub at-weight-with : (w : ℕ) → w ≡ place.item.file.weight → (file : FileRules) → w + weight_of (with_row path file rows) ≡ weight_of rows + file.weight
    at-weight-with w e file =
        let p = parts in
        let q = ap weight_of (at-with path rows i place up file) in
        let m = weight-middle (take i rows) (drop (i + 1) rows) (file_row path file) in
        omega (arith, p, q, m, e)

  module _ (gap : IsGapFor (beside path) rows i) where
    pub gap-weight-without : 0 + weight_of (without_row path rows) ≡ weight_of rows
    gap-weight-without = let q = ap weight_of (gap-without path rows i gap) in omega (arith, q)

    pub gap-weight-with : (file : FileRules) → 0 + weight_of (with_row path file rows) ≡ weight_of rows + file.weight
    gap-weight-with file =
        let q = ap weight_of (gap-with path rows i gap file) in
        let m = weight-middle (take i rows) (drop i rows) (file_row path file) in
        let t = ap weight_of (take-append-drop i rows) in
        omega (arith, q, m, t)
