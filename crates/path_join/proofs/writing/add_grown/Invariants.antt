use Rattle.std.proofs.Common.{◌≡◌, ◌++◌, map, take}
use Rattle.path_join.specs.Joining.{grown_symbol}
use Rattle.path_join.proofs.writing.add_grown.Given as goal

abbrev pub invariant-loop-out : goal.invariant-loop-out
invariant-loop-out l = l.symbols.items ≡ l.initial.symbols.items ++ map (grown_symbol l.known) (take l.out-index l.outs)
