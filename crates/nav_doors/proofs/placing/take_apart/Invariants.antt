use Rattle.std.proofs.Common.{◌≡◌, ◌+◌, ◌≤◌, vec_len, vec_capacity, length}
use Rattle.std.specs.Vec.Iter.{into_iter_items}
use Rattle.nav_doors.specs.Inside.{doors_of, seats_of}
use Rattle.nav_doors.proofs.placing.take_apart.Given as goal

-- The doors and seats of the places so far are back, and there is room for the others.
abbrev pub invariant-loop-place : goal.invariant-loop-place
invariant-loop-place g l = record {
  doors : l.doors.items ≡ doors_of l.yielded;
  seats : l.seats.items ≡ seats_of l.yielded;
  door_room : vec_len l.doors + length (into_iter_items l.place-iterator) ≤ vec_capacity l.doors;
  seat_room : vec_len l.seats + length (into_iter_items l.place-iterator) ≤ vec_capacity l.seats;
}
