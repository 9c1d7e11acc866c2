use Rattle.partial_path.proofs.Offered.{AskFor}
use Rattle.partial_path.proofs.offers.first_offered.Given as goal

-- what is offered asks for at least so many symbols
abbrev pub invariant-loop-count : goal.invariant-loop-count
invariant-loop-count l = AskFor l.start l.symbols l.paths l.count
