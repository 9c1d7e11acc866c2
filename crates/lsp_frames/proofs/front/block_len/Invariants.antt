use Rattle.std.proofs.Common.{◌≡◌, take, None}
use Rattle.lsp_frames.specs.Blocks.{ends_block, least}
use Rattle.lsp_frames.proofs.front.block_len.Given as goal

-- no shorter front ends with an empty line
abbrev pub invariant-loop-n : goal.invariant-loop-n
invariant-loop-n l = least (λ n. ends_block (take n l.bytes)) l.n ≡ None
