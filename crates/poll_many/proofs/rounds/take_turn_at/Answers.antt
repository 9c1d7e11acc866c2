-- The other places stay as they are.
use Rattle.std.proofs.Common.{slice_index_or}
use Rattle.std.proofs.lemmas.List.{length-set}
use Rattle.std.proofs.lemmas.Option.{slice_get-get_or}
use Rattle.poll_many.specs.Connections.{outside}
use Rattle.poll_many.proofs.PlaceTurns.{busy_out, turned}
use Rattle.poll_many.proofs.Settled.{one_more_waits}
use Rattle.poll_many.proofs.rounds.take_turn_at.Goals as goal

pub take_turn-requires-clause-standing : goal.take_turn-requires-clause-standing
take_turn-requires-clause-standing g c _ _ =
    (c.requires.under_way.standing c.args.n (slice_index_or c.args.places.now c.args.n c.index-places-n.result)
    (slice_get-get_or c.args.places.now c.args.n c.index-places-n.result c.requires.inside)).0

pub take_turn-requires-clause-out : goal.take_turn-requires-clause-out
take_turn-requires-clause-out g c _ _ =
    busy_out (outside g.P.Port g.P.K.Link g.B.Pins)
    c.args.means.now.call.now 0 c.args.wanted c.args.port.now c.args.places.now c.args.n (slice_index_or c.args.places.now c.args.n c.index-places-n.result)
    (slice_get-get_or c.args.places.now c.args.n c.index-places-n.result c.requires.inside) c.requires.under_way

pub returns-clause-goes : goal.returns-clause-goes
returns-clause-goes g c = record {
  under_way = turned (outside g.P.Port g.P.K.Link g.B.Pins)
      c.args.means.now.call.now c.args.wanted c.args.port.now c.take_turn.new.port c.args.places.now c.args.n
      (slice_index_or c.args.places.now c.args.n c.index-places-n.result) c.take_turn.new.place c.take_turn.result
      (slice_get-get_or c.args.places.now c.args.n c.index-places-n.result c.requires.inside) c.take_turn.ensures.count c.take_turn.ensures.takes c.requires.under_way;
  len = length-set c.args.places.now c.args.n c.take_turn.new.place;
  count = c.take_turn.ensures.count;
}

pub returns-clause-waits : goal.returns-clause-waits
returns-clause-waits g c e =
    one_more_waits (outside g.P.Port g.P.K.Link g.B.Pins)
    c.args.port.now c.take_turn.new.port c.args.places.now c.args.n
    (slice_index_or c.args.places.now c.args.n c.index-places-n.result) c.take_turn.new.place
    (slice_get-get_or c.args.places.now c.args.n c.index-places-n.result c.requires.inside) (rw e at c.take_turn.ensures.takes) (c.take_turn.ensures.waits e)
