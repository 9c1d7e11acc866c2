use Rattle.std.proofs.Common.{◌≡◌, ◌+◌, ◌≤◌, ◌++◌, vec_len, vec_capacity}
use Rattle.poll_many.specs.Places.{boards_of}
use Rattle.poll_many.proofs.seating.take_apart.Given as goal

-- The seats of the places so far are back, and there is room for the others.
abbrev pub invariant-loop-rest : goal.invariant-loop-rest
invariant-loop-rest g l = record {
  seats : l.seats.items ++ boards_of l.rest.items ≡ boards_of l.fn.places.items;
  room : vec_len l.seats + vec_len l.rest ≤ vec_capacity l.seats;
}

abbrev pub decreases-loop-rest : goal.decreases-loop-rest
decreases-loop-rest g l = vec_len l.rest
