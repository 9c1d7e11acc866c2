use Rattle.std.proofs.Common.{◌≡◌, vec_len}
use Rattle.nav_answers.proofs.sharing.empty_shares.Given as goal

abbrev pub invariant-loop : goal.invariant-loop
invariant-loop l = vec_len l.shares ≡ l.counter
