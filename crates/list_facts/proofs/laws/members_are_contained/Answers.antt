use Rattle.list_facts.proofs.Members.{Contains-from_IsIn, IsIn-from_Contains}
use Rattle.list_facts.proofs.laws.members_are_contained.Goals as goal

pub returns : goal.returns
returns g c = λ xs x. (Contains-from_IsIn xs x, IsIn-from_Contains xs x)
