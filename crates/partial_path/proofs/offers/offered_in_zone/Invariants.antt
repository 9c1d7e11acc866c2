use Rattle.partial_path.specs.Inside.{NoneOffered}
use Rattle.partial_path.proofs.offers.offered_in_zone.Given as goal

-- none of the paths so far is offered
abbrev pub invariant-loop-place : goal.invariant-loop-place
invariant-loop-place l = NoneOffered l.start l.symbols l.paths l.from l.place
