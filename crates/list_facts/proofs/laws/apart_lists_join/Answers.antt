use Rattle.list_facts.proofs.Apart.{IsApart-append}
use Rattle.list_facts.proofs.laws.apart_lists_join.Goals as goal

pub returns : goal.returns
returns g c = λ xs ys. IsApart-append xs ys
