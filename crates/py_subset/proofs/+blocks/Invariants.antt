-- Blocks nest no deeper than a number that falls with each.
use Rattle.std.proofs.Common.{◌≡◌, ◌-◌, ◌+◌, ◌*◌}
use Rattle.py_subset.specs.declared.token.Mark.TheVariants as m
use Rattle.py_subset.specs.Parsers.{star, ◌▹◌}
use Rattle.py_subset.specs.Parsing.{is}
use Rattle.py_subset.specs.Statements as spec
use Rattle.py_subset.proofs.Prefix.{with_front}
use Rattle.py_subset.proofs.+blocks.Given as goal

abbrev pub decreases-block::block : goal.decreases-block::block
decreases-block::block l = 9 * l.depth + 0

abbrev pub decreases-block::suite : goal.decreases-block::suite
decreases-block::suite l = 9 * l.depth + 1

abbrev pub decreases-block::colon_suite : goal.decreases-block::colon_suite
decreases-block::colon_suite l = 9 * l.depth + 2

abbrev pub decreases-block::otherwise : goal.decreases-block::otherwise
decreases-block::otherwise l = 9 * l.depth + 3

abbrev pub decreases-compound::bodies : goal.decreases-compound::bodies
decreases-compound::bodies l = 9 * l.depth + 4

abbrev pub decreases-compound::arm : goal.decreases-compound::arm
decreases-compound::arm l = 9 * l.depth + 3

abbrev pub decreases-compound::next_arm : goal.decreases-compound::next_arm
decreases-compound::next_arm l = 9 * l.depth + 4

abbrev pub decreases-compound::arms : goal.decreases-compound::arms
decreases-compound::arms l = 9 * l.depth + 5

abbrev pub decreases-compound::if_stmt : goal.decreases-compound::if_stmt
decreases-compound::if_stmt l = 9 * l.depth + 6

abbrev pub decreases-compound::while_stmt : goal.decreases-compound::while_stmt
decreases-compound::while_stmt l = 9 * l.depth + 6

abbrev pub decreases-compound::for_stmt : goal.decreases-compound::for_stmt
decreases-compound::for_stmt l = 9 * l.depth + 6

abbrev pub decreases-compound::def_stmt : goal.decreases-compound::def_stmt
decreases-compound::def_stmt l = 9 * l.depth + 6

abbrev pub decreases-compound::class_stmt : goal.decreases-compound::class_stmt
decreases-compound::class_stmt l = 9 * l.depth + 6

abbrev pub decreases-block::stmt : goal.decreases-block::stmt
decreases-block::stmt l = 9 * l.depth + 7

abbrev pub decreases-block::stmts : goal.decreases-block::stmts
decreases-block::stmts l = 9 * l.depth + 8

abbrev pub invariant-compound::arms-loop-turn : goal.invariant-compound::arms-loop-turn
invariant-compound::arms-loop-turn l = with_front l.list (star (is m.Elif) (m.Elif ▹ spec.arm l.turns (spec.block l.turns l.depth)) (l.turns - l._turn) l.tokens) ≡ spec.arms l.turns (spec.block l.turns l.depth) l.fn.tokens

abbrev pub invariant-block::stmts-loop-turn : goal.invariant-block::stmts-loop-turn
invariant-block::stmts-loop-turn l = with_front l.list (star spec.begins_stmt (spec.stmt l.turns (spec.block l.turns l.depth)) (l.turns - l._turn) l.tokens) ≡ spec.stmts l.turns (spec.block l.turns l.depth) l.fn.tokens
