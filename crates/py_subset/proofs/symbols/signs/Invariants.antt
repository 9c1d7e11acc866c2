use Rattle.std.proofs.Common.{◌≡◌, ◌-◌}
use Rattle.py_subset.specs.Trees as tree
use Rattle.py_subset.specs.Parsers.{star, marked}
use Rattle.py_subset.specs.Parsing as spec
use Rattle.py_subset.proofs.Prefix.{with_front}
use Rattle.py_subset.proofs.symbols.signs.Given as goal

abbrev pub invariant-loop-turn : goal.invariant-loop-turn
invariant-loop-turn l = with_front l.signs (star spec.begins_sign (marked tree.sign_of) (l.turns - l._turn) l.tokens) ≡ star spec.begins_sign (marked tree.sign_of) l.turns l.fn.tokens
