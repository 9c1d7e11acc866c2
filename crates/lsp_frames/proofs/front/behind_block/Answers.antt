use Rattle.std.proofs.Common.{arith}
use Rattle.lsp_frames.proofs.Cuts.{front_few}
use Rattle.lsp_frames.proofs.front.behind_block.Goals as goal

pub returns-in-Bytes : goal.returns-in-Bytes
returns-in-Bytes c =
    front_few c.args.bytes.now c.args.block c.in-Bytes.n c.requires.block c.in-Bytes.ensures.0 c.in-Bytes.ensures.1
    (omega (arith, c.if-bytes-block.true, c.requires.within))
