-- Which edits a version accepts, and else which refusal comes first.
use Rattle.std.specs.Prelude.{List, [], ◌∷◌, ℕ, length, Bool, nat_lt, nat_le, Option, Some, None, if◌then◌else◌}
use Rattle.std.specs.Option.{option_map}
use Rattle.std.specs.List.{filter, flat_map, sum_by}
use Rattle.std.specs.Ordering.{is_lt, is_eq}
use Rattle.grants.specs.Pairs.{Pair, pair, has_pair}
use Rattle.grants.specs.Covers.{Rules}
use Rattle.version_tree.specs.declared.edit.Edit.{Edit}
use Rattle.version_tree.specs.declared.edit.Edit.TheVariants.{Put, Remove, Grant, Revoke, Deny, Undeny}
use Rattle.version_tree.specs.declared.edit.EditFault.{EditFault}
use Rattle.version_tree.specs.declared.edit.EditFault.TheVariants.{Twice, Absent, GrantAbsent, DenyAbsent, TooManyFiles, TooHeavy, Spent}
use Rattle.version_tree.specs.Limits.{max_files, max_weight, max_number}
use Rattle.version_tree.specs.Contents.{FileRow, Content, path_cmp, has_path, edited_all, ruled}

-- the path that an edit puts or removes
abbrev pub touched : Edit → List (List ℕ)
touched (Put path paths) = path ∷ []
touched (Remove path) = path ∷ []
touched (Grant user prefix) = []
touched (Revoke user prefix) = []
touched (Deny user prefix) = []
touched (Undeny user prefix) = []

-- the paths that these edits put or remove, each as often
abbrev pub all_touched : List Edit → List (List ℕ)
all_touched edits = flat_map touched edits

-- whether the path stands more than once among these
abbrev pub stands_twice : List (List ℕ) → List ℕ → Bool
stands_twice paths path = nat_lt 1 (length (filter (λ (other : List ℕ). is_eq (path_cmp other path)) paths))

-- the lesser of a path and one that there may be
abbrev pub lesser : List ℕ → Option (List ℕ) → List ℕ
lesser path None = path
lesser path (Some other) = if is_lt (path_cmp other path) then other else path

-- the least of these paths
abbrev pub least : List (List ℕ) → Option (List ℕ)
least [] = None
least (path ∷ paths) = Some (lesser path (least paths))

-- the least path that two puts or removes name
abbrev pub twice : List Edit → Option (List ℕ)
twice edits = least (filter (stands_twice (all_touched edits)) (all_touched edits))

-- the path that an edit removes
abbrev pub removed : Edit → List (List ℕ)
removed (Put path paths) = []
removed (Remove path) = path ∷ []
removed (Grant user prefix) = []
removed (Revoke user prefix) = []
removed (Deny user prefix) = []
removed (Undeny user prefix) = []

-- the first of these paths that no row has
abbrev pub first_absent : List FileRow → List (List ℕ) → Option (List ℕ)
first_absent rows [] = None
first_absent rows (path ∷ paths) = if has_path path rows then first_absent rows paths else Some path

-- the first path that is removed and that no row has
abbrev pub absent : List FileRow → List Edit → Option (List ℕ)
absent rows edits = first_absent rows (flat_map removed edits)

-- whether the edit revokes a grant that isn't there, or takes away a deny that isn't there
abbrev pub misses_grant : Rules → Edit → Option Pair
misses_grant rules (Put path paths) = None
misses_grant rules (Remove path) = None
misses_grant rules (Grant user prefix) = None
misses_grant rules (Revoke user prefix) = if has_pair (pair user prefix) rules.granted then None else Some (pair user prefix)
misses_grant rules (Deny user prefix) = None
misses_grant rules (Undeny user prefix) = None

abbrev pub misses_deny : Rules → Edit → Option Pair
misses_deny rules (Put path paths) = None
misses_deny rules (Remove path) = None
misses_deny rules (Grant user prefix) = None
misses_deny rules (Revoke user prefix) = None
misses_deny rules (Deny user prefix) = None
misses_deny rules (Undeny user prefix) = if has_pair (pair user prefix) rules.denied then None else Some (pair user prefix)

-- the first of two that there is
abbrev pub first_of : {X : Type 0} → Option X → Option X → Option X
first_of (Some x) rest = Some x
first_of None rest = rest

-- the first grant that is revoked and isn't there at that point; the first deny that is taken away and isn't
abbrev pub grant_absent : Rules → List Edit → Option Pair
grant_absent rules [] = None
grant_absent rules (edit ∷ edits) = first_of (misses_grant rules edit) (grant_absent (ruled edit rules) edits)

abbrev pub deny_absent : Rules → List Edit → Option Pair
deny_absent rules [] = None
deny_absent rules (edit ∷ edits) = first_of (misses_deny rules edit) (deny_absent (ruled edit rules) edits)

-- the number, where it is above the limit
abbrev pub above : ℕ → ℕ → Option ℕ
above limit n = if nat_lt limit n then Some n else None

-- the weights of the rows together
abbrev pub weight_of : List FileRow → ℕ
weight_of rows = sum_by (λ (row : FileRow). row.file.weight) rows

-- the number of the version leaves none for the next
abbrev pub spent : ℕ → Option EditFault
spent number = if nat_le max_number number then Some Spent else None

-- a grant or a deny that isn't there, as a fault
abbrev pub no_grant : Pair → EditFault
no_grant p = GrantAbsent p.user p.prefix

abbrev pub no_deny : Pair → EditFault
no_deny p = DenyAbsent p.user p.prefix

-- the first refusal of these edits to a version of this number and content
abbrev pub edit_fault : ℕ → Content → List Edit → Option EditFault
edit_fault number v edits =
    first_of (option_map Twice (twice edits))
    (first_of (option_map Absent (absent v.rows edits))
    (first_of (option_map no_grant (grant_absent v.rules edits))
    (first_of (option_map no_deny (deny_absent v.rules edits))
    (first_of (option_map TooManyFiles (above max_files (length (edited_all edits v).rows)))
    (first_of (option_map TooHeavy (above max_weight (weight_of (edited_all edits v).rows)))
    (spent number))))))
