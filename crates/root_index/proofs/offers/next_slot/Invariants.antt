use Rattle.std.proofs.Common.{◌≡◌, ◌-◌, length}
use Rattle.root_index.specs.Offers.{paths_left}
use Rattle.root_index.proofs.offers.next_slot.Given as goal

-- what was passed over isn't offered
abbrev pub invariant-loop-here : goal.invariant-loop-here
invariant-loop-here l = paths_left l.fn.at l.symbols l.slots ≡ paths_left l.here l.symbols l.slots

abbrev pub decreases-loop-here : goal.decreases-loop-here
decreases-loop-here l = length l.slots - l.here.place
