-- One place more has no open session.
use Rattle.std.proofs.Common.{slice_index_or}
use Rattle.std.proofs.lemmas.Option.{slice_get-get_or}
use Rattle.poll_many.specs.Connections.{outside}
use Rattle.poll_many.proofs.PlaceTurns.{busy_out, closed, rest_put}
use Rattle.poll_many.proofs.closing.close_at.Goals as goal

pub close_place-requires-clause-standing : goal.close_place-requires-clause-standing
close_place-requires-clause-standing g c =
    (c.requires.under_way.standing c.args.n (slice_index_or c.args.places.now c.args.n c.index-places-n.result)
    (slice_get-get_or c.args.places.now c.args.n c.index-places-n.result c.requires.inside)).0

pub close_place-requires-clause-out : goal.close_place-requires-clause-out
close_place-requires-clause-out g c =
    busy_out (outside g.P.Port g.P.K.Link g.B.Pins)
    c.args.call.now c.args.n c.args.wanted c.args.port.now c.args.places.now c.args.n (slice_index_or c.args.places.now c.args.n c.index-places-n.result)
    (slice_get-get_or c.args.places.now c.args.n c.index-places-n.result c.requires.inside) c.requires.under_way

pub returns-clause-under_way : goal.returns-clause-under_way
returns-clause-under_way g c =
    closed (outside g.P.Port g.P.K.Link g.B.Pins)
    c.args.call.now c.args.n c.args.wanted c.args.port.now c.close_place.new.port c.args.places.now c.args.n
    (slice_index_or c.args.places.now c.args.n c.index-places-n.result) c.close_place.new.place
    (slice_get-get_or c.args.places.now c.args.n c.index-places-n.result c.requires.inside) c.close_place.ensures.count c.close_place.ensures.closes c.requires.under_way

pub returns-clause-before : goal.returns-clause-before
returns-clause-before g c =
    rest_put c.args.places.now c.args.n (slice_index_or c.args.places.now c.args.n c.index-places-n.result) c.close_place.new.place
    (slice_get-get_or c.args.places.now c.args.n c.index-places-n.result c.requires.inside) c.close_place.ensures.rests c.requires.before
