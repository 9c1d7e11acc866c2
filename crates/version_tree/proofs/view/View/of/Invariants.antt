use Rattle.std.proofs.Common.{◌≡◌, take}
use Rattle.version_tree.specs.Placed.{places_from, starts_from}
use Rattle.version_tree.proofs.view.View.of.Given as goal

abbrev pub invariant-loop-i : goal.invariant-loop-i
invariant-loop-i l = (l.starts.items ≡ starts_from 0 (take l.i l.fn.blocks)) × (l.places.items ≡ places_from 0 (take l.i l.fn.blocks))
