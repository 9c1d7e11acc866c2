use Rattle.std.proofs.Common.{◌∙◌}
use Rattle.partial_path.proofs.HeadOrders.{heads_rise, head_after}
use Rattle.partial_path.proofs.offers.offers_after.Goals as goal

pub returns-clause-after : goal.returns-clause-after
returns-clause-after c =
    let are = c.requires.heads (c.if-count-size.false ∙ c.len-size.ensures) in
    head_after c.args.start c.args.paths.now c.args.heads.now c.args.place c.args.high c.len-size.result c.requires.bounds.0 c.requires.bounds.1 c.len-size.ensures are
    (heads_rise c.args.paths.now c.args.start c.args.heads.now c.args.place c.args.high c.requires.order c.requires.bounds.1 c.requires.begin are)
    c.if-head-eq0.false c.if-next_head-head.false
