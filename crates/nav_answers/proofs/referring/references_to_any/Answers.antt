use Rattle.std.proofs.Common.{◌∙◌}
use Rattle.nav_answers.proofs.Referred.{told_to_any, told_of_each}
use Rattle.nav_answers.proofs.referring.references_to_any.Goals as goal

pub returns-clause-reply : goal.returns-clause-reply
returns-clause-reply g c h =
    told_to_any c.in_ok-known.known.bounds c.args.bounds c.view.result.now c.args.seen.now c.args.definitions.now c.answer_from-found.result
    c.in_ok-known.ensures.bounds (c.view.ensures ∙ c.known_of.ensures.same) (c.answer_from-found.ensures.reply h)

pub returns-clause-each : goal.returns-clause-each
returns-clause-each g c =
    told_of_each c.in_ok-known.known.bounds c.args.bounds c.view.result.now c.args.seen.now c.args.definitions.now c.answer_from-found.result
    c.in_ok-known.ensures.bounds (c.view.ensures ∙ c.known_of.ensures.same) c.answer_from-found.ensures.each
