use Rattle.grants.proofs.laws.a_pair_comes_and_goes.Goals as goal
use Rattle.grants.proofs.Gained as laws

pub returns-clause-comes : goal.returns-clause-comes
returns-clause-comes c = λ p q ps. (laws.comes p q ps, laws.stays p q ps)

pub returns-clause-goes : goal.returns-clause-goes
returns-clause-goes c = λ p q ps. (laws.gone p q ps, laws.left p q ps)
