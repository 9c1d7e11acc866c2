use Rattle.std.proofs.Common.{ap, ◌∙◌, Err}
use Rattle.nav_answers.proofs.Called.{told_after_many, told_among, told_by_all, usual_is}
use Rattle.nav_answers.proofs.calling.callers_of.Goals as goal

pub returns-then-has_each-clause-reply : goal.returns-then-has_each-clause-reply
returns-then-has_each-clause-reply g c h =
    told_by_all c.usual.result c.args.seen.now c.args.node c.rows_of_references.result (usual_is c.usual.result c.usual.ensures.edges c.usual.ensures.depth)
    (c.has_each.ensures c.if-has_each.true) (c.rows_of_references.ensures.reply h)

pub returns-in-Ok-clause-reply : goal.returns-in-Ok-clause-reply
returns-in-Ok-clause-reply g c h =
    told_among c.view.result.now c.args.seen.now c.args.node c.callers_among.result (c.view.ensures ∙ c.leading.ensures.same) c.in-Ok.ensures.few (c.callers_among.ensures h)

pub returns-in-Err-Many-clause-reply : goal.returns-in-Err-Many-clause-reply
returns-in-Err-Many-clause-reply g c h =
    told_after_many c.leading.new.self c.args.seen.now c.args.node c.rows_of_references-in-Err-Many.result c.leading.ensures.same
    (c.in-Err-Many.ensures.many (ap (λ x. Err x) c.in-Err-Many.field-0-is)) (c.rows_of_references-in-Err-Many.ensures.reply h)
