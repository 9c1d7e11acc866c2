use Rattle.std.proofs.Common.{◌≡◌, ℕ, ◌<◌, length, get_or, take}
use Rattle.root_index.specs.Blocks.{all_paths}
use Rattle.root_index.proofs.blocks.Blocks.starts.Given as goal

-- the blocks passed have their starts, and so many paths
abbrev pub invariant-loop-block : goal.invariant-loop-block
invariant-loop-block l = record {
  count : length l.starts.items ≡ l.block-index;
  each : (k d : ℕ) → k < l.block-index → get_or l.starts.items k d ≡ length (all_paths (take k l.block-items));
  sum : l.count ≡ length (all_paths (take l.block-index l.block-items));
}
