use Rattle.std.proofs.Common.{◌≡◌, take}
use Rattle.path_join.proofs.copying.copied_outs.Given as goal

abbrev pub invariant-loop-out : goal.invariant-loop-out
invariant-loop-out l = l.symbols.items ≡ take l.out-index l.outs
