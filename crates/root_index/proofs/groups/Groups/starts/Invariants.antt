use Rattle.std.proofs.Common.{◌≡◌, ℕ, ◌<◌, length, get_or, take}
use Rattle.root_index.specs.Blocks.{all_paths}
use Rattle.root_index.proofs.groups.Groups.starts.Given as goal

-- the groups passed have their starts, and so many paths
abbrev pub invariant-loop-group : goal.invariant-loop-group
invariant-loop-group l = record {
  count : length l.starts.items ≡ l.group-index;
  each : (k d : ℕ) → k < l.group-index → get_or l.starts.items k d ≡ length (all_paths (take k l.group-items));
  sum : l.count ≡ length (all_paths (take l.group-index l.group-items));
}
