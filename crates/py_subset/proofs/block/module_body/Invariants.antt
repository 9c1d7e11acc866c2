use Rattle.std.proofs.Common.{◌≡◌, ◌-◌}
use Rattle.py_subset.specs.Parsers.{star}
use Rattle.py_subset.specs.Statements as spec
use Rattle.py_subset.proofs.Prefix.{with_front}
use Rattle.py_subset.proofs.block.module_body.Given as goal

abbrev pub invariant-loop-turn : goal.invariant-loop-turn
invariant-loop-turn l = with_front l.list (star spec.begins_stmt (spec.stmt l.turns (spec.block l.turns l.depth)) (l.turns - l._turn) l.tokens) ≡ spec.module_of l.turns l.depth l.fn.tokens
