use Rattle.std.proofs.lemmas.Bool.Decides.{same_from_decides}
use Rattle.stacks_vars.specs.Same.{scopes_eq}
use Rattle.stacks_vars.proofs.SameLaws.{scopes_told, scopes_eq-Decides}
use Rattle.stacks_vars.proofs.scopes.Stack+NodeAt.same.Goals as goal

pub returns-clause-eq : goal.returns-clause-eq
returns-clause-eq c =
    same_from_decides c.eq.result (scopes_eq c.args.self.now c.args.other.now)
    (scopes_told c.eq.result c.args.self.now c.args.other.now c.reversed.result.now c.reversed-2.result.now c.eq.ensures c.reversed.ensures c.reversed-2.ensures)
    (scopes_eq-Decides c.args.self.now c.args.other.now)

pub returns-clause-exact : goal.returns-clause-exact
returns-clause-exact c =
    scopes_told c.eq.result c.args.self.now c.args.other.now c.reversed.result.now c.reversed-2.result.now c.eq.ensures c.reversed.ensures c.reversed-2.ensures
