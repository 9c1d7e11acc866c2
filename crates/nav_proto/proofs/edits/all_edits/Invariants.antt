use Rattle.std.proofs.Common.{◌≡◌, ◌++◌, map, option_map}
use Rattle.serde_json.specs.View.{view}
use Rattle.nav_proto.specs.Edits.{edit_of, all_some}
use Rattle.nav_proto.proofs.edits.all_edits.Given as goal

-- the edits so far, and then those of the values that are left
abbrev pub invariant-loop-value : goal.invariant-loop-value
invariant-loop-value l = all_some (map edit_of (map view l.fn.values.items)) ≡ option_map (λ ys. l.edits.items ++ ys) (all_some (map edit_of (map view l.value-iterator.rest.items)))
