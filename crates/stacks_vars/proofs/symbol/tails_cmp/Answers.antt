use Rattle.std.proofs.Common.{◌≤◌, length, arith, inl, inr, ◌⊎◌}
use Rattle.std.proofs.lemmas.Bool.{cases_lt}
use Rattle.stacks_vars.proofs.BytesLaws.{bytes_over}
use Rattle.stacks_vars.proofs.symbol.tails_cmp.Goals as goal

-- one text has no more bytes
pub returns : goal.returns
returns c =
    let far : c.min-count.result ≤ c.loop-i.i = c.loop-i-test.false in
    let end : c.loop-i.i ≤ c.min-count.result = c.loop-i.auto.i-end (omega (arith, c.min-count.ensures, c.requires.more)) in
    let one : length c.args.a.now ≤ c.loop-i.i ⊎ length c.args.b.now ≤ c.loop-i.i
    = elim (cases_lt (length c.args.a.now) (length c.args.b.now)) [ inl l ↦ inl (omega (arith, far, c.min-count.ensures, l)) | inr l ↦ inr (omega (arith, far, c.min-count.ensures, l)) ] in
    bytes_over c.args.a.now c.args.b.now c.loop-i.i c.cmp.result (omega (arith, end, c.min-count.ensures)) (omega (arith, end, c.min-count.ensures)) one c.cmp.ensures c.loop-i.invariant
