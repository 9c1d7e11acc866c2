use Rattle.std.proofs.Common.{◌≡◌, drop}
use Rattle.nav_serve.specs.Words.{spelled}
use Rattle.nav_serve.proofs.words.spelled.Given as goal

-- with the digits that are left it is the number that all spell
abbrev pub invariant-loop-byte : goal.invariant-loop-byte
invariant-loop-byte l = spelled l.n (drop l.byte-index l.digits) ≡ spelled 0 l.digits
