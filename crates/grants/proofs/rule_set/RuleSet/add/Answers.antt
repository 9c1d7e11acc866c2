use Rattle.std.proofs.Common.{sym, subst}
use Rattle.grants.specs.Pairs.{IsRising}
use Rattle.grants.proofs.Found as found
use Rattle.grants.proofs.rule_set.RuleSet.add.Goals as goal

pub invariant_of-self-in-Err : goal.invariant_of-self-in-Err
invariant_of-self-in-Err c =
    rw (c.in_ok-insert-in-Err.ensures.items, c.in_ok-rule-in-Err.ensures) (found.gap-rises _ _ _ (rw c.self.view_is c.in-Err.ensures.absent) c.self.invariant)

pub returns-in-Ok-clause-ok : goal.returns-in-Ok-clause-ok
returns-in-Ok-clause-ok c = sym (found.at-with _ _ _ c.in-Ok.ensures.found (subst IsRising c.self.view_is c.self.invariant))

pub returns-in_ok-insert-in-Err-clause-ok : goal.returns-in_ok-insert-in-Err-clause-ok
returns-in_ok-insert-in-Err-clause-ok c =
    rw (c.in_ok-insert-in-Err.ensures.items, c.in_ok-rule-in-Err.ensures, c.self.view_is) (sym (found.gap-with _ _ _ c.in-Err.ensures.absent))
