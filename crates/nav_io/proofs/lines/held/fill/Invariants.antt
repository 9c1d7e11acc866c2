use Rattle.std.proofs.Common.{◌≡◌, ◌≤◌, ◌+◌, ◌-◌, length}
use Rattle.std.specs.Io.KnownBytes.{prepend_known}
use Rattle.nav_io.specs.Lines.{line_max, line_len}
use Rattle.nav_io.proofs.lines.held.fill.Given as goal

-- No byte is lost, and none that is held is a newline.
abbrev pub invariant-loop-held : goal.invariant-loop-held
invariant-loop-held g l = record {
  kept : prepend_known l.held.items (g.S.Source.left l.source) ≡ prepend_known l.fn.held.items (g.S.Source.left l.fn.source);
  no_newline : line_len l.held.items ≡ length l.held.items;
  count : g.S.Source.faults l.fn.source ≤ g.S.Source.faults l.source;
}

abbrev pub decreases-loop-held : goal.decreases-loop-held
decreases-loop-held g l = line_max + 1 - length l.held.items
