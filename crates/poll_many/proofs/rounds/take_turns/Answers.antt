-- What is kept by all turns is kept by one more. Where none ended a session, each open one had to wait.
use Rattle.std.proofs.Common.{refl, arith, ◌∙◌}
use Rattle.poll_many.specs.Connections.{outside}
use Rattle.poll_many.proofs.Settled.{waited_at_first, all_waited}
use Rattle.poll_many.proofs.rounds.take_turns.Goals as goal

pub loop-n-init : goal.loop-n-init
loop-n-init g c = record {
  under_way = c.requires.under_way;
  len = refl;
  count = omega arith;
  unsettled = refl;
  waits = λ none.
      waited_at_first (outside g.P.Port g.P.K.Link g.B.Pins)
      c.args.port.now c.args.places.now;
  kept = λ fact h. h;
}

pub loop-n-preserved : goal.loop-n-preserved
loop-n-preserved g c = record {
  under_way = c.take_turn_at-turn.ensures.goes.under_way;
  len = c.take_turn_at-turn.ensures.goes.len ∙ c.loop-n.invariant.len;
  count = omega (arith, c.loop-n.invariant.count, c.take_turn_at-turn.ensures.goes.count);
  unsettled = c.take_turn_at-turn.ensures.unsettled ∙ c.loop-n.invariant.unsettled;
  waits = λ none. c.take_turn_at-turn.ensures.waits (c.has_ended-any.ensures.waits none) c.args.port.now c.args.places.now
      (c.loop-n.invariant.waits (c.has_ended-any.ensures.none none));
  kept = λ fact h. c.take_turn_at-turn.ensures.kept fact (c.loop-n.invariant.kept fact h);
}

pub returns-clause-waits : goal.returns-clause-waits
returns-clause-waits g c none =
    all_waited (outside g.P.Port g.P.K.Link g.B.Pins)
    c.loop-n.n c.args.port.now c.loop-n.port c.args.places.now c.loop-n.places
    (omega (arith, c.loop-n-test.false, c.loop-n.auto.places)) (c.loop-n.invariant.waits none)
