-- What a pass over sorted paths finds; no public clause cites this.
use Rattle.std.specs.Prelude.{List, [], ◌∷◌, ℕ, Bool, false, Option, Some, None, if◌then◌else◌}
use Rattle.std.specs.Ordering.{is_eq}
use Rattle.version_tree.specs.Contents.{path_cmp}

-- whether the path is the last one once more
abbrev pub is_again : Option (List ℕ) → List ℕ → Bool
is_again None path = false
is_again (Some last) path = is_eq (path_cmp last path)

-- the first path that is the one before it once more
abbrev pub repeat_from : Option (List ℕ) → List (List ℕ) → Option (List ℕ)
repeat_from last [] = None
repeat_from last (path ∷ paths) = if is_again last path then Some path else repeat_from (Some path) paths
