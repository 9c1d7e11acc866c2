use Rattle.std.proofs.Common.{◌≡◌, [], replicate}
use Rattle.path_join.proofs.known.Known.nothing.Given as goal

abbrev pub invariant-loop : goal.invariant-loop
invariant-loop l = l.items.items ≡ replicate l.counter []
