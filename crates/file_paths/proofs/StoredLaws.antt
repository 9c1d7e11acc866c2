-- The paths that are stored of a file, and the joins of such paths, are of file 0 alone.
use Rattle.std.proofs.Common.{◌≡◌, ◌<◌, sym, subst, ℕ, List, length, Option, Some, None, get_or, slice_get}
use Rattle.std.specs.Prelude.{All}
use Rattle.std.specs.Option.{IfSome}
use Rattle.std.proofs.lemmas.Option.{slice_get_within, get_or_from_slice_get}
use Rattle.std.proofs.lemmas.List.Elements.{All-weaker, All-from_recursion}
use Rattle.graph_nodes.specs.Graph.{Graph}
use Rattle.partial_path.specs.Rules.{Rule}
use Rattle.partial_path.specs.FileNumbers.{IsOfFileZero}
use Rattle.partial_path.specs.PathSets.{IsLandingRule, IsPathSet}
use Rattle.path_join.specs.Joins.{IsJoin}

all_zero : (g : Graph) (rules : List Rule) → IsPathSet g rules → All IsOfFileZero rules
all_zero g rules set =
    All-weaker (IsLandingRule g) IsOfFileZero (λ (r : Rule) (h : IsLandingRule g r). h.exact.files) rules
    (All-from_recursion (IsLandingRule g) rules set.sound)

-- the path at a place of the list
pub stored_zero : (g : Graph) (rules : List Rule) (i : ℕ) (path : Rule) → IsPathSet g rules → i < length rules → path ≡ get_or rules i path
    → IsOfFileZero path
stored_zero g rules i path set below is = subst IsOfFileZero (sym is) (all_zero g rules set i path below)

pub placed_zero : (g : Graph) (rules : List Rule) (i : ℕ) (path : Rule) → IsPathSet g rules → slice_get rules i ≡ Some path → IsOfFileZero path
placed_zero g rules i path set is =
    stored_zero g rules i path set (slice_get_within rules i path is) (sym (get_or_from_slice_get rules i path path is))

pub joined_zero : (p q : Rule) → IsOfFileZero p → IsOfFileZero q → (found : Option Rule) → IfSome found (IsJoin p q) → IfSome found IsOfFileZero
joined_zero p q h k None join = tt
joined_zero p q h k (Some j) join = join.files h k
