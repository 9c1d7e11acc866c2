use Rattle.std.proofs.Common.{sym, subst}
use Rattle.grants.specs.Pairs.{pair, IsRising}
use Rattle.grants.proofs.Found as found
use Rattle.grants.proofs.rule_set.RuleSet.remove.Goals as goal

pub invariant_of-self : goal.invariant_of-self
invariant_of-self c =
    rw c.remove.ensures.items (found.at-rises (pair c.args.user.now c.args.prefix.now) c.self.inside.rules.items c.in-Ok.i (rw c.self.view_is c.in-Ok.ensures.found) c.self.invariant)

pub returns-in-Ok-clause-answer : goal.returns-in-Ok-clause-answer
returns-in-Ok-clause-answer c = sym (found.at-has _ _ _ c.in-Ok.ensures.found)

pub returns-in-Ok-clause-left : goal.returns-in-Ok-clause-left
returns-in-Ok-clause-left c =
    rw (c.remove.ensures.items, c.self.view_is) (sym (found.at-without _ _ _ c.in-Ok.ensures.found (subst IsRising c.self.view_is c.self.invariant)))

pub returns-in-Err-clause-answer : goal.returns-in-Err-clause-answer
returns-in-Err-clause-answer c = sym (found.gap-has _ _ _ c.in-Err.ensures.absent)

pub returns-in-Err-clause-left : goal.returns-in-Err-clause-left
returns-in-Err-clause-left c = sym (found.gap-without _ _ _ c.in-Err.ensures.absent)
