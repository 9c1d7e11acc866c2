-- The count rose in the last call, and fell in none before. Where no link was given out, none was in any call.
use Rattle.std.proofs.Common.{false, sym, ◌∙◌, arith}
use Rattle.poll_many.specs.Connections.{outside}
use Rattle.poll_many.proofs.PlaceSteps.{risen_before}
use Rattle.poll_many.proofs.Settled.{none_more, ok_same}
use Rattle.poll_many.proofs.rounds.take_links.Goals.{in-Unasked, in-Given}
use Rattle.poll_many.proofs.rounds.take_links.Goals as goal

pub returns-in-Failed-clause-failed : goal.returns-in-Failed-clause-failed
returns-in-Failed-clause-failed g c =
    risen_before (g.P.Port.faults c.args.port.now) (g.P.Port.faults c.loop-n.port) (g.P.Port.faults c.take_link_at.new.port)
    c.loop-n.invariant.count (c.take_link_at.ensures.failed c.in-Failed.is)

pub returns-then-wanted-eq0-clause-none : goal.returns-then-wanted-eq0-clause-none
returns-then-wanted-eq0-clause-none g c e = c.loop-n.invariant.none (ok_same c.loop-n.any false e)

pub returns-in-NotYet-clause-none : goal.returns-in-NotYet-clause-none
returns-in-NotYet-clause-none g c e =
    none_more (outside g.P.Port g.P.K.Link g.B.Pins)
    c.args.port.now c.loop-n.port c.take_link_at.new.port c.args.places.now c.loop-n.places c.take_link_at.new.places
    (c.loop-n.invariant.none (ok_same c.loop-n.any false e)) (c.take_link_at.ensures.none (λ given. cc (sym c.in-NotYet.is ∙ given)))

pub returns-clause-none : goal.returns-clause-none
returns-clause-none g c e = c.loop-n.invariant.none (ok_same c.loop-n.any false e)

pub loop-n-preserved : goal.loop-n-preserved
loop-n-preserved g c = record {
  under_way = c.take_link_at.ensures.goes.under_way;
  len = c.take_link_at.ensures.goes.len ∙ c.loop-n.invariant.len;
  count = omega (arith, c.loop-n.invariant.count, c.take_link_at.ensures.goes.count);
  unsettled = c.take_link_at.ensures.unsettled ∙ c.loop-n.invariant.unsettled;
  none = elim c.match-take_link_at.branch [
    | in-Unasked w ↦ λ e.
        none_more (outside g.P.Port g.P.K.Link g.B.Pins)
        c.args.port.now c.loop-n.port c.take_link_at.new.port c.args.places.now c.loop-n.places c.take_link_at.new.places
        (c.loop-n.invariant.none (sym w.any-is ∙ e)) (c.take_link_at.ensures.none (λ given. cc (sym w.in-Unasked.is ∙ given)))
    | in-Given w ↦ λ e. absurd (cc (sym w.any-is ∙ e))
  ];
}
