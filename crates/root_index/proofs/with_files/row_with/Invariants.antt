use Rattle.std.proofs.Common.{◌-◌}
use Rattle.root_index.proofs.with_files.row_with.Given as goal

-- the rows between the two
abbrev pub decreases-loop-low : goal.decreases-loop-low
decreases-loop-low l = l.high - l.low
