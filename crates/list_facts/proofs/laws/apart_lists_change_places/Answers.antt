use Rattle.list_facts.proofs.Apart.{IsApart-swap}
use Rattle.list_facts.proofs.laws.apart_lists_change_places.Goals as goal

pub returns : goal.returns
returns g c = λ xs ys. IsApart-swap xs ys
