-- Laws of summaries.
use Rattle.std.specs.Prelude.{◌≡◌, ℕ, List}
use Rattle.version_tree.specs.declared.entry.Entry.{Entry}
use Rattle.version_board.specs.Logs.{own}
use Rattle.nav_demo.specs.Summary.{IsSummary}

-- over logs that have only the session's own entries, a made tree has one summary
abbrev pub TreesHaveOneSummary : Type 0
TreesHaveOneSummary =
    (seat : ℕ) (log other : List Entry) (files start : ℕ) (text others : List ℕ)
    → own seat log ≡ log → own seat other ≡ other
    → IsSummary seat 0 log files start text → IsSummary seat 0 other files start others → text ≡ others
