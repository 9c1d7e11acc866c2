-- A seat more has a place.
use Rattle.std.proofs.Common.{arith}
use Rattle.poll_many.proofs.PortServed.{seated_more, free_more}
use Rattle.poll_many.proofs.seating.places_of.Goals as goal

pub loop-alloc-preserved : goal.loop-alloc-preserved
loop-alloc-preserved g c =
    let len = c.loop-alloc.seats.ok.0 in
    record {
      seats = rw c.push_reserved.ensures.items
          (seated_more c.loop-alloc.places.items c.new.result c.remove.result c.loop-alloc.seats.items c.remove.new.self.items c.args.seats.now.items
          (omega (arith, len, c.remove.ensures.len)) c.remove.ensures.value c.remove.ensures.by_index.2 c.loop-alloc.invariant.seats);
      free = rw c.push_reserved.ensures.items (free_more c.loop-alloc.places.items c.new.result c.remove.result c.loop-alloc.invariant.free);
      all = omega (arith, c.push_reserved.ensures.len, c.remove.ensures.len, c.loop-alloc.invariant.all);
      room = omega (arith, c.push_reserved.ensures.capacity, c.loop-alloc.invariant.room);
      seat_room = omega (arith, c.remove.ensures.capacity, c.loop-alloc.invariant.seat_room);
    }
