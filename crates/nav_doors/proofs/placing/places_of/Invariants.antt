use Rattle.std.proofs.Common.{◌≡◌, ◌-◌, ◌≤◌, ◌+◌, ◌++◌, vec_len, vec_capacity}
use Rattle.nav_doors.specs.Inside.{doors_of, seats_of}
use Rattle.nav_doors.proofs.placing.places_of.Given as goal

-- The places have the first doors and seats, and the others still stand where they stood.
abbrev pub invariant-loop-places : goal.invariant-loop-places
invariant-loop-places g l = record {
  doors : doors_of l.places.items ++ l.doors.items ≡ l.fn.doors.items;
  seats : seats_of l.places.items ++ l.seats.items ≡ l.fn.seats.items;
  all : vec_len l.places + vec_len l.doors ≡ l.count;
  pairs : vec_len l.seats ≡ vec_len l.doors;
  room : l.count ≤ vec_capacity l.places;
  door_room : l.count ≤ vec_capacity l.doors;
  seat_room : l.count ≤ vec_capacity l.seats;
}

abbrev pub decreases-loop-places : goal.decreases-loop-places
decreases-loop-places g l = l.count - vec_len l.places
