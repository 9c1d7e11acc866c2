use Rattle.std.proofs.Common.{◌≡◌, take}
use Rattle.root_index.proofs.groups.Groups.share.Given as goal

abbrev pub invariant-loop-group : goal.invariant-loop-group
invariant-loop-group l = l.groups.items ≡ take l.group-index l.group-items
