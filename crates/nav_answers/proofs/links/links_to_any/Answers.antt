use Rattle.nav_answers.proofs.Linked.{links_more}
use Rattle.nav_answers.proofs.links.links_to_any.Goals as goal

pub loop-definition-preserved : goal.loop-definition-preserved
loop-definition-preserved c =
    links_more c.args.list.now c.links_to.result.now c.args.definitions.now c.loop-definition.definition-index _ c.loop-definition.links.items c.extend_from_slice.new.self.items
    c.loop-definition-test.true c.loop-definition.invariant c.links_to.ensures c.in_ok-extend_from_slice.ensures.items
