-- Where no place is left, all seats are back.
use Rattle.std.proofs.Common.{arith, sym, ◌∙◌, vec_len}
use Rattle.poll_many.specs.Places.{boards_of}
use Rattle.poll_many.proofs.PortServed.{all_put, nothing_left}
use Rattle.poll_many.proofs.seating.take_apart.Goals as goal

pub returns : goal.returns
returns g c =
    all_put c.loop-rest.seats.items (boards_of c.args.places.items) c.loop-rest.rest.items
    (nothing_left c.loop-rest.rest.items (vec_len c.loop-rest.rest) (let l = c.loop-rest.rest.ok.0 in omega (arith, l))
    (sym c.is_empty.ensures ∙ c.loop-rest-test.false)) c.loop-rest.invariant.seats
