use Rattle.std.proofs.Common.{◌∙◌, sym, arith}
use Rattle.path_join.proofs.PlainLaws.{meets_over}
use Rattle.path_join.proofs.stored.meets.Goals as goal

pub returns : goal.returns
returns c = sym (c.loop-i.invariant ∙ meets_over c.args.pats.now c.args.outs.now c.loop-i.i (omega (arith, c.loop-i-test.false, c.min-i-end.ensures)))
