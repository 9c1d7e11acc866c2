use Rattle.std.proofs.Common.{sym, ◌∙◌, ap, arith, min, length, ◌≤◌, ◌<◌, ◌+◌, ◌-◌, take, drop}
use Rattle.partial_path.specs.Marks.{with_all}
use Rattle.partial_path.proofs.Marked.{byte_more, bytes_over}
use Rattle.partial_path.proofs.marks.mark_of.Goals as goal

pub loop-i-preserved : goal.loop-i-preserved
loop-i-preserved c =
    let inside : c.loop-i.i < min (length c.as_bytes-bytes.result.now) 64 = omega (arith, c.loop-i-test.true, c.min-i-end.ensures) in
    c.loop-i.invariant ∙ byte_more c.loop-i.mark c.loop-i.i c.as_bytes-bytes.result.now inside
    ∙ ap (λ m. with_all m (take (64 - (c.loop-i.i + 1)) (drop (c.loop-i.i + 1) c.as_bytes-bytes.result.now))) (sym c.with_one-mark.ensures)

pub returns : goal.returns
returns c =
    let past : min (length c.as_bytes-bytes.result.now) 64 ≤ c.loop-i.i = omega (arith, c.loop-i-test.false, c.min-i-end.ensures) in
    sym (c.loop-i.invariant ∙ bytes_over c.loop-i.mark c.loop-i.i c.as_bytes-bytes.result.now past)
