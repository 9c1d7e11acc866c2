use Rattle.std.proofs.Common.{◌≡◌, ◌-◌, ◌≤◌, ◌+◌, ◌++◌, vec_len, vec_capacity}
use Rattle.poll_many.specs.Places.{AllFree, boards_of}
use Rattle.poll_many.proofs.seating.places_of.Given as goal

-- The places have the first seats, and the others still stand where they stood.
abbrev pub invariant-loop-alloc : goal.invariant-loop-alloc
invariant-loop-alloc g l = record {
  seats : boards_of l.places.items ++ l.seats.items ≡ l.fn.seats.items;
  free : AllFree l.places.items;
  all : vec_len l.places + vec_len l.seats ≡ l.count;
  room : l.count ≤ vec_capacity l.places;
  seat_room : l.count ≤ vec_capacity l.seats;
}

abbrev pub decreases-loop-alloc : goal.decreases-loop-alloc
decreases-loop-alloc g l = l.count - vec_len l.places
