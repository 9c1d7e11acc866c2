use Rattle.std.proofs.Common.{◌≡◌, ◌++◌}
use Rattle.version_tree.specs.Placed.{places_in}
use Rattle.version_tree.proofs.view.add_places.Given as goal

abbrev pub invariant-loop-row : goal.invariant-loop-row
invariant-loop-row l = l.places.items ≡ l.initial.places.items ++ places_in l.block 0 l.row
