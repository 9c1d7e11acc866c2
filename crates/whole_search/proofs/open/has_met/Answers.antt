-- What is met after an edge is met after it or after the rest.
use Rattle.partial_path.specs.Same.{config_eq}
use Rattle.whole_search.proofs.Following.{any_cut-found, any_cut-more}
use Rattle.whole_search.proofs.open.has_met.Goals as goal

pub returns-then-is_met_after : goal.returns-then-is_met_after
returns-then-is_met_after c =
    any_cut-found (config_eq c.args.at.now) _ c.loop-edge.here c.in-Some.next c.args.edges.now c.loop-edge.edge-index _ _ _ _ c.loop-edge-test.true c.in_ok-next.ensures c.in-Some.is
    c.is_met_after.ensures c.if-is_met_after.true c.loop-edge.invariant

pub loop-edge-preserved : goal.loop-edge-preserved
loop-edge-preserved c =
    any_cut-more (config_eq c.args.at.now) _ c.loop-edge.here c.in-Some.next c.args.edges.now c.loop-edge.edge-index _ _ _ _ c.loop-edge-test.true c.in_ok-next.ensures c.in-Some.is
    c.is_met_after.ensures c.if-is_met_after.false c.loop-edge.invariant
