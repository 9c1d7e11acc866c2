use Rattle.std.proofs.Common.{◌≡◌, ◌≤◌, ◌-◌, ◌++◌, List, ℕ, vec_len}
use Rattle.std.specs.Io.KnownBytes.{prepend_known}
use Rattle.nav_io.proofs.taking.take_until.Given as goal

-- No byte is lost.
abbrev pub invariant-loop-held : goal.invariant-loop-held
invariant-loop-held g l = record {
  kept : prepend_known l.held.items (g.S.Source.left l.source) ≡ prepend_known l.fn.held.items (g.S.Source.left l.fn.source);
  grows : (more : List ℕ) × (l.held.items ≡ l.fn.held.items ++ more);
  count : g.S.Source.faults l.fn.source ≤ g.S.Source.faults l.source;
}

abbrev pub decreases-loop-held : goal.decreases-loop-held
decreases-loop-held g l = l.n - vec_len l.held
