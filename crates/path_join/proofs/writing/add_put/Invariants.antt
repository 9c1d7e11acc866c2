use Rattle.std.proofs.Common.{◌≡◌, ◌++◌, map, take}
use Rattle.path_join.specs.Joining.{put_symbol}
use Rattle.path_join.specs.Tables.{bound_of}
use Rattle.path_join.proofs.writing.add_put.Given as goal

abbrev pub invariant-loop-out : goal.invariant-loop-out
invariant-loop-out l = l.symbols.items ≡ l.initial.symbols.items ++ map (put_symbol (bound_of l.joint)) (take l.out-index l.outs)
