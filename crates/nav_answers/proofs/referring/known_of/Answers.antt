use Rattle.nav_answers.proofs.referring.known_of.Goals as goal

pub returns-in-Some-clause-known : goal.returns-in-Some-clause-known
returns-in-Some-clause-known g c = c.in-Some.ensures.known c.args.definitions.now
