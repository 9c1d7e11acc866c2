-- The other places stay as they are.
use Rattle.std.proofs.Common.{slice_index_or}
use Rattle.std.proofs.lemmas.List.{length-set}
use Rattle.std.proofs.lemmas.Option.{slice_get-get_or}
use Rattle.poll_many.specs.Connections.{outside}
use Rattle.poll_many.proofs.PlaceTurns.{took}
use Rattle.poll_many.proofs.Settled.{none_at}
use Rattle.poll_many.proofs.rounds.take_link_at.Goals as goal

pub take_link-asked-requires : goal.take_link-asked-requires
take_link-asked-requires g c = record {
  standing = (c.requires.under_way.standing c.args.n (slice_index_or c.args.places.now c.args.n c.index-places-n.result)
      (slice_get-get_or c.args.places.now c.args.n c.index-places-n.result c.requires.inside)).0;
}

pub returns-clause-goes : goal.returns-clause-goes
returns-clause-goes g c = record {
  under_way = rw c.still_wanted.ensures (took (outside g.P.Port g.P.K.Link g.B.Pins)
      c.args.call.now c.args.wanted.now c.args.port.now c.take_link-asked.new.port c.args.places.now c.args.n
      (slice_index_or c.args.places.now c.args.n c.index-places-n.result) c.take_link-asked.new.place c.take_link-asked.result
      (slice_get-get_or c.args.places.now c.args.n c.index-places-n.result c.requires.inside) c.take_link-asked.ensures.count c.requires.some
      c.take_link-asked.ensures.takes c.requires.under_way);
  len = length-set c.args.places.now c.args.n c.take_link-asked.new.place;
  count = c.take_link-asked.ensures.count;
}

pub returns-clause-none : goal.returns-clause-none
returns-clause-none g c =
    none_at (outside g.P.Port g.P.K.Link g.B.Pins)
    c.args.port.now c.take_link-asked.new.port c.args.places.now c.args.n
    (slice_index_or c.args.places.now c.args.n c.index-places-n.result) c.take_link-asked.new.place c.take_link-asked.result
    (slice_get-get_or c.args.places.now c.args.n c.index-places-n.result c.requires.inside) c.take_link-asked.ensures.takes c.take_link-asked.ensures.same
