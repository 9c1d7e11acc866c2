-- The index of rows as one list: all their paths from the root, each put in behind those that stand no higher.
use Rattle.std.specs.Prelude.{List, [], ◌∷◌}
use Rattle.std.specs.List.{insert, prefix_len}
use Rattle.version_tree.specs.Contents.{FileRow}
use Rattle.root_index.specs.Roots.{RootPath, all_roots}
use Rattle.root_index.specs.Blocks.{is_up_to}

-- the paths in the order of their ranks: the last is put in first, and each behind those that stand no higher
abbrev pub by_rank : List RootPath → List RootPath
by_rank [] = []
by_rank (p ∷ ps) = insert (by_rank ps) (prefix_len (is_up_to p) (by_rank ps)) p

-- the paths of the rows from the root, so ordered
abbrev pub index_of : List FileRow → List RootPath
index_of rows = by_rank (all_roots rows)
