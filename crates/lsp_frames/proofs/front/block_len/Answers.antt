use Rattle.std.proofs.Common.{arith, sym, ◌∙◌}
use Rattle.lsp_frames.proofs.Least.{block_len-found}
use Rattle.lsp_frames.proofs.front.block_len.Goals as goal

pub returns-then-ends_block-clause-is : goal.returns-then-ends_block-clause-is
returns-then-ends_block-clause-is c =
    block_len-found c.args.bytes.now c.loop-n.n c.loop-n.invariant (sym c.ends_block.ensures ∙ c.if-ends_block.true)
    (omega (arith, c.loop-n-test.true, c.min-n-end.ensures))
