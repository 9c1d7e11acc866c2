use Rattle.std.proofs.Common.{◌≡◌, ◌≤◌, ◌-◌, ◌+◌, true, vec_len, if◌then◌else◌}
use Rattle.std.specs.Io.KnownBytes.{prepend_known, IsAtEnd}
use Rattle.lsp_frames.specs.Inside.{frame_max}
use Rattle.lsp_frames.proofs.held.fill.Given as goal

-- no byte is lost
abbrev pub invariant-loop-ended : goal.invariant-loop-ended
invariant-loop-ended g l = record {
  kept : prepend_known l.held.items (g.S.Source.left l.source) ≡ prepend_known l.fn.held.items (g.S.Source.left l.fn.source);
  at_end : l.ended ≡ true → IsAtEnd (g.S.Source.left l.source);
  count : g.S.Source.faults l.fn.source ≤ g.S.Source.faults l.source;
}

abbrev pub decreases-loop-ended : goal.decreases-loop-ended
decreases-loop-ended g l = if l.ended then 0 else frame_max + 1 - vec_len l.held
