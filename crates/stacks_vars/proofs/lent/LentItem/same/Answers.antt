use Rattle.std.proofs.Common.{rules}
use Rattle.stacks_vars.proofs.lent.LentItem.same.Goals as goal
use Rattle.stacks_vars.proofs.SameLaws.{item_told}

pub returns-then-same-clause-exact : goal.returns-then-same-clause-exact
returns-then-same-clause-exact c = item_told c.same_scopes.result c.args.self.now c.args.other.now (search rules)
