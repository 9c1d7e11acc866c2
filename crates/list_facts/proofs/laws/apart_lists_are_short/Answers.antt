use Rattle.list_facts.proofs.Sums.{length-apart_le}
use Rattle.list_facts.proofs.laws.apart_lists_are_short.Goals as goal

pub returns : goal.returns
returns g c = λ xs ys. length-apart_le xs ys
