use Rattle.std.proofs.Common.{◌≡◌, drop}
use Rattle.poll_many.specs.ManyWords.{all_behind}
use Rattle.poll_many.proofs.words.all_of.Given as goal

-- with the digits that are left it is the number that all make
abbrev pub invariant-loop-byte : goal.invariant-loop-byte
invariant-loop-byte l = all_behind l.n (drop l.byte-index l.digits) ≡ all_behind 0 l.digits
