use Rattle.std.proofs.Common.{◌≤◌, []}
use Rattle.lsp_frames.specs.Blocks.{lengths_in, lines_from}
use Rattle.lsp_frames.specs.Inside.{StatesSoFar, lines_left}
use Rattle.lsp_frames.proofs.lengths.stated_length.Given as goal

-- the lines so far are noted, and a further one has begun
abbrev pub invariant-loop-n : goal.invariant-loop-n
invariant-loop-n l = record {
  begun : l.start ≤ l.n;
  stated : StatesSoFar l.stated (lengths_in (lines_from [] l.block)) (lengths_in (lines_left l.start l.n l.block));
}
