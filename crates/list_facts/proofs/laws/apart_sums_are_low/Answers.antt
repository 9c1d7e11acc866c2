use Rattle.list_facts.proofs.Sums.{sum-apart_le}
use Rattle.list_facts.proofs.laws.apart_sums_are_low.Goals as goal

pub returns : goal.returns
returns g c = λ f xs ys. sum-apart_le f xs ys
