use Rattle.std.proofs.Common.{◌≡◌, subst, IfOk, Option, None}
use Rattle.partial_path.specs.Rules.{Rule}
use Rattle.path_join.specs.Joins.{NonePasses}
use Rattle.path_join.proofs.stored.join_stored.Goals as goal

pub returns-clause-none : goal.returns-clause-none
returns-clause-none c =
    subst (λ (r : Rule). IfOk c.join.result (λ (found : Option Rule). found ≡ None → NonePasses r c.args.q.now)) c.in_ok-moved.ensures.moved c.join.ensures.none
