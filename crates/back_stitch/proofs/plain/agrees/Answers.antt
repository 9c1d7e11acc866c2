-- A path that makes more doesn't agree; at the end of what it makes it does.
use Rattle.std.proofs.Common.{◌∙◌, sym, arith}
use Rattle.back_stitch.proofs.LookUps.{agrees_end, agrees_over}
use Rattle.back_stitch.proofs.plain.agrees.Goals as goal

pub returns-then-made-asked : goal.returns-then-made-asked
returns-then-made-asked c = sym (agrees_over c.args.asked.now c.args.made.now c.if-made-asked.true)

pub returns : goal.returns
returns c = sym (c.loop-place.invariant ∙ agrees_end c.args.asked.now c.args.made.now c.loop-place.place (omega arith))
