use Rattle.std.proofs.Common.{◌≡◌, take}
use Rattle.root_index.specs.Blocks.{all_paths}
use Rattle.root_index.proofs.groups.Groups.slots.Given as goal

-- the paths of the groups passed are there
abbrev pub invariant-loop-group : goal.invariant-loop-group
invariant-loop-group l = l.slots.items ≡ all_paths (take l.group-index l.group-items)
