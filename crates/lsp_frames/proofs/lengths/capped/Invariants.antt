use Rattle.std.proofs.Common.{◌≡◌, ◌+◌, min, take}
use Rattle.lsp_frames.specs.Blocks.{number}
use Rattle.lsp_frames.specs.Frames.{body_max}
use Rattle.lsp_frames.proofs.lengths.capped.Given as goal

-- the number that the digits so far are, if it isn't too large
abbrev pub invariant-loop-digit : goal.invariant-loop-digit
invariant-loop-digit l = l.number ≡ min (number (take l.digit-index l.digits)) (body_max + 1)
