-- The index of rows is that list.
use Rattle.std.proofs.Common.{rules, ◌≡◌, List, [], ◌∷◌}
use Rattle.std.specs.List.{insert, prefix_len}
use Rattle.std.specs.List.Sorted.{IsPermutation}
use Rattle.std.proofs.lemmas.List.Sorted.{IsPermutation-refl, IsPermutation-trans, IsPermutation-cons, IsPermutation-insert}
use Rattle.version_tree.specs.Contents.{FileRow, IsInOrder}
use Rattle.root_index.specs.Roots.{RootPath, AreByRank, IsIndexOf, OneIndex, all_roots}
use Rattle.root_index.specs.Blocks.{is_up_to}
use Rattle.root_index.proofs.WithFile.{order_with}
use Rattle.version_board.specs.Ranked.{by_rank, index_of}

ranked : (ps : List RootPath) → AreByRank (by_rank ps)
ranked [] = search rules
ranked (p ∷ ps) = order_with (by_rank ps) p (ranked ps)

all_ranked : (ps : List RootPath) → IsPermutation ps (by_rank ps)
all_ranked [] = IsPermutation-refl []
all_ranked (p ∷ ps) =
    IsPermutation-trans (p ∷ ps) (p ∷ by_rank ps) (insert (by_rank ps) (prefix_len (is_up_to p) (by_rank ps)) p) (IsPermutation-cons p ps (by_rank ps) (all_ranked ps))
    (IsPermutation-insert (by_rank ps) (prefix_len (is_up_to p) (by_rank ps)) p)

pub index_is : (rows : List FileRow) → IsIndexOf rows (index_of rows)
index_is rows = record { all = all_ranked (all_roots rows); order = ranked (all_roots rows) }

pub same_index : OneIndex → (rows : List FileRow) (paths : List RootPath) → IsInOrder rows → IsIndexOf rows paths → paths ≡ index_of rows
same_index one rows paths order h = one rows paths (index_of rows) order h (index_is rows)
