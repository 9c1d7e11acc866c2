use Rattle.std.proofs.Common.{◌≡◌, length}
use Rattle.root_index.specs.Offers.{paths_left, offers_left}
use Rattle.root_index.proofs.index.RootIndex.next_offer_by.Given as goal

-- what was passed over isn't offered
abbrev pub invariant-loop-slot : goal.invariant-loop-slot
invariant-loop-slot l = offers_left l.initial.at l.symbols l._view l.self ≡ offers_left l.at l.symbols l._view l.self

abbrev pub decreases-loop-slot : goal.decreases-loop-slot
decreases-loop-slot l = length (paths_left l.at l.symbols l.self)
