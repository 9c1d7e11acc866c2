use Rattle.std.proofs.Common.{◌≡◌, ◌++◌, take}
use Rattle.path_join.proofs.copying.add_pats.Given as goal

-- the symbols so far are put behind the others
abbrev pub invariant-loop-pat : goal.invariant-loop-pat
invariant-loop-pat l = l.symbols.items ≡ l.initial.symbols.items ++ take l.pat-index l.pats
