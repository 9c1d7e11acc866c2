-- What the join is by its definition does what the one and then the other does.
use Rattle.std.proofs.Common.{◌≡◌, sym, ◌∙◌, Option, Some, None}
use Rattle.std.specs.Option.{IfSome}
use Rattle.std.proofs.lemmas.Result.{IfOk-weaker}
use Rattle.partial_path.specs.Rules.{Rule, IsRule}
use Rattle.path_join.specs.Joins.{IsJoin, NonePasses}
use Rattle.path_join.specs.Joining.{join_rules}
use Rattle.path_join.proofs.Joined.{joined, joined_is_rule, never}
use Rattle.path_join.proofs.joining.join.Goals as goal

pub join_as_defined-requires-clause-rule : goal.join_as_defined-requires-clause-rule
join_as_defined-requires-clause-rule c = λ j e. joined_is_rule c.args.p.now c.args.q.now j c.start.ensures.rule c.start-2.ensures.rule e

found-joins : (p q : Rule) → IsRule p → IsRule q → (found : Option Rule) → found ≡ join_rules p q → IfSome found (IsJoin p q)
found-joins p q h k None e = tt
found-joins p q h k (Some j) e = joined p q j h k (sym e)

pub returns-clause-joined : goal.returns-clause-joined
returns-clause-joined c =
    IfOk-weaker c.join_as_defined.result
    (λ (found : Option Rule). found ≡ join_rules c.args.p.now c.args.q.now)
    (λ (found : Option Rule). IfSome found (IsJoin c.args.p.now c.args.q.now))
    (found-joins c.args.p.now c.args.q.now c.start.ensures.rule c.start-2.ensures.rule) c.join_as_defined.ensures

pub returns-clause-none : goal.returns-clause-none
returns-clause-none c =
    IfOk-weaker c.join_as_defined.result
    (λ (found : Option Rule). found ≡ join_rules c.args.p.now c.args.q.now)
    (λ (found : Option Rule). found ≡ None → NonePasses c.args.p.now c.args.q.now)
    (λ found e none. never c.args.p.now c.args.q.now c.start.ensures.rule c.start-2.ensures.rule (sym e ∙ none)) c.join_as_defined.ensures
