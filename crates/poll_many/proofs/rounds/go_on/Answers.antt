-- Settling changes neither list, and what rounds keep is kept by one more.
use Rattle.std.proofs.Common.{arith, ◌∙◌, ap, Ok}
use Rattle.poll_many.specs.Connections.{outside}
use Rattle.poll_many.proofs.PlaceTurns.{settled}
use Rattle.poll_many.proofs.Settled.{settled_on, unsettled_on}
use Rattle.poll_many.proofs.rounds.go_on.Goals as goal

pub returns-in_err-is_quiet-clause-kept : goal.returns-in_err-is_quiet-clause-kept
returns-in_err-is_quiet-clause-kept g c fact h = c.in_err-is_quiet.ensures.kept fact (c.loop.invariant.kept fact h)

pub returns-then-are_over-clause-kept : goal.returns-then-are_over-clause-kept
returns-then-are_over-clause-kept g c fact h = c.go_round.ensures.kept fact (c.loop.invariant.kept fact h)

pub returns-in_err-settle_if-clause-kept : goal.returns-in_err-settle_if-clause-kept
returns-in_err-settle_if-clause-kept g c fact h = c.go_round.ensures.kept fact (c.loop.invariant.kept fact h)

pub returns-in_err-settle_if-clause-goes : goal.returns-in_err-settle_if-clause-goes
returns-in_err-settle_if-clause-goes g c = record {
  under_way = settled (outside g.P.Port g.P.K.Link g.B.Pins)
      c.args.means.now.call.now 0 c.go_round.new.wanted c.go_round.new.port c.settle_if.new.port c.go_round.new.places
      c.settle_if.ensures.given c.settle_if.ensures.back c.settle_if.ensures.count c.go_round.ensures.goes.under_way;
  len = c.go_round.ensures.goes.len ∙ c.loop.invariant.len;
  count = omega (arith, c.loop.invariant.count, c.go_round.ensures.goes.count, c.settle_if.ensures.count);
}

pub loop-preserved : goal.loop-preserved
loop-preserved g c = record {
  under_way = settled (outside g.P.Port g.P.K.Link g.B.Pins)
      c.args.means.now.call.now 0 c.go_round.new.wanted c.go_round.new.port c.settle_if.new.port c.go_round.new.places
      c.settle_if.ensures.given c.settle_if.ensures.back c.settle_if.ensures.count c.go_round.ensures.goes.under_way;
  len = c.go_round.ensures.goes.len ∙ c.loop.invariant.len;
  count = omega (arith, c.loop.invariant.count, c.go_round.ensures.goes.count, c.settle_if.ensures.count);
  settled = λ s.
      settled_on (outside g.P.Port g.P.K.Link g.B.Pins)
      c.args.means.now.call.now c.go_round.new.wanted c.loop.port c.go_round.new.port c.settle_if.new.port c.loop.places c.go_round.new.places c.in_ok-is_quiet.is_quiet
      c.go_round.ensures.goes.under_way c.go_round.ensures.goes.len c.go_round.ensures.unsettled
      (λ quiet. c.in_ok-is_quiet.ensures.quiet (ap Ok quiet)) c.settle_if.ensures.settled c.settle_if.ensures.busy (c.loop.invariant.settled s);
  kept = λ fact h. c.go_round.ensures.kept fact (c.loop.invariant.kept fact h);
}

pub returns-in_err-is_quiet-clause-settled : goal.returns-in_err-is_quiet-clause-settled
returns-in_err-is_quiet-clause-settled g c s =
    unsettled_on (outside g.P.Port g.P.K.Link g.B.Pins)
    c.args.means.now.call.now.port.value c.loop.port c.go_round.new.port c.go_round.ensures.unsettled (c.loop.invariant.settled s)

pub returns-then-are_over-clause-settled : goal.returns-then-are_over-clause-settled
returns-then-are_over-clause-settled g c s =
    unsettled_on (outside g.P.Port g.P.K.Link g.B.Pins)
    c.args.means.now.call.now.port.value c.loop.port c.go_round.new.port c.go_round.ensures.unsettled (c.loop.invariant.settled s)

pub returns-in_err-settle_if-clause-settled : goal.returns-in_err-settle_if-clause-settled
returns-in_err-settle_if-clause-settled g c s =
    settled_on (outside g.P.Port g.P.K.Link g.B.Pins)
    c.args.means.now.call.now c.go_round.new.wanted c.loop.port c.go_round.new.port c.settle_if.new.port c.loop.places c.go_round.new.places c.in_ok-is_quiet.is_quiet
    c.go_round.ensures.goes.under_way c.go_round.ensures.goes.len c.go_round.ensures.unsettled
    (λ quiet. c.in_ok-is_quiet.ensures.quiet (ap Ok quiet)) c.settle_if.ensures.settled c.settle_if.ensures.busy (c.loop.invariant.settled s)
