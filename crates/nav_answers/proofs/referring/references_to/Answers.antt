use Rattle.nav_answers.proofs.Referred.{told_to_one}
use Rattle.nav_answers.proofs.referring.references_to.Goals as goal

pub returns-clause-reply : goal.returns-clause-reply
returns-clause-reply g c h =
    told_to_one c.args.bounds c.args.seen.now c.hit_of.result c.args.node c.references_to_any.result c.hit_of.ensures (c.references_to_any.ensures.reply h)
