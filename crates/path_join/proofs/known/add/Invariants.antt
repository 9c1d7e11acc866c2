use Rattle.std.proofs.Common.{◌≡◌, ◌++◌, take}
use Rattle.path_join.proofs.known.add.Given as goal

abbrev pub invariant-loop-scope : goal.invariant-loop-scope
invariant-loop-scope l = l.list ≡ l.initial.list ++ take l.scope-index l.more
