use Rattle.std.proofs.Common.{◌≡◌, drop}
use Rattle.path_store.specs.Inside.{found_at}
use Rattle.path_store.proofs.store.find_among.Given as goal

-- What is found among all numbers is found among those left.
abbrev pub invariant-loop-number : goal.invariant-loop-number
invariant-loop-number l = found_at l.doc l.first l.kept.items l.numbers ≡ found_at l.doc l.first l.kept.items (drop l.number-index l.numbers)
