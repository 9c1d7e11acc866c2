use Rattle.list_facts.proofs.Halving.{found, absent}
use Rattle.list_facts.proofs.laws.halving_finds.Goals as goal

pub returns : goal.returns
returns g c = λ order xs r up bound is. (found order xs r bound is, absent order xs r up bound is)
