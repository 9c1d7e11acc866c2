-- Brackets nest no deeper than a number that falls with each.
use Rattle.std.proofs.Common.{◌≡◌, ◌-◌, ◌+◌, ◌*◌}
use Rattle.py_subset.specs.Parsers.{star, further, several}
use Rattle.py_subset.specs.Parsing as spec
use Rattle.py_subset.proofs.Prefix.{with_front, with_front_flag}
use Rattle.py_subset.proofs.+nested.Given as goal

abbrev pub decreases-primaries::bracketed : goal.decreases-primaries::bracketed
decreases-primaries::bracketed l = 12 * l.depth + 1

abbrev pub decreases-primaries::in_round : goal.decreases-primaries::in_round
decreases-primaries::in_round l = 12 * l.depth + 2

abbrev pub decreases-primaries::atom : goal.decreases-primaries::atom
decreases-primaries::atom l = 12 * l.depth + 3

abbrev pub decreases-primaries::postfix : goal.decreases-primaries::postfix
decreases-primaries::postfix l = 12 * l.depth + 3

abbrev pub decreases-primaries::postfixes : goal.decreases-primaries::postfixes
decreases-primaries::postfixes l = 12 * l.depth + 4

abbrev pub decreases-primaries::primary : goal.decreases-primaries::primary
decreases-primaries::primary l = 12 * l.depth + 5

abbrev pub decreases-expr::operand : goal.decreases-expr::operand
decreases-expr::operand l = 12 * l.depth + 6

abbrev pub decreases-expr::negated : goal.decreases-expr::negated
decreases-expr::negated l = 12 * l.depth + 7

abbrev pub decreases-expr::compared : goal.decreases-expr::compared
decreases-expr::compared l = 12 * l.depth + 7

abbrev pub decreases-expr::joined : goal.decreases-expr::joined
decreases-expr::joined l = 12 * l.depth + 8

abbrev pub decreases-expr::joins : goal.decreases-expr::joins
decreases-expr::joins l = 12 * l.depth + 9

abbrev pub decreases-expr::expr : goal.decreases-expr::expr
decreases-expr::expr l = 12 * l.depth + 10

abbrev pub decreases-expr::listed : goal.decreases-expr::listed
decreases-expr::listed l = 12 * l.depth + 11

abbrev pub decreases-expr::exprs : goal.decreases-expr::exprs
decreases-expr::exprs l = 12 * l.depth + 0

abbrev pub invariant-primaries::postfixes-loop-turn : goal.invariant-primaries::postfixes-loop-turn
invariant-primaries::postfixes-loop-turn l = with_front l.posts (star spec.begins_postfix (spec.postfix l.turns (spec.exprs l.turns l.depth)) (l.turns - l._turn) l.tokens) ≡ star spec.begins_postfix (spec.postfix l.turns (spec.exprs l.turns l.depth)) l.turns l.fn.tokens

abbrev pub invariant-expr::joins-loop-turn : goal.invariant-expr::joins-loop-turn
invariant-expr::joins-loop-turn l = with_front l.rest (star spec.begins_joined (spec.joined l.turns (spec.exprs l.turns l.depth)) (l.turns - l._turn) l.tokens) ≡ star spec.begins_joined (spec.joined l.turns (spec.exprs l.turns l.depth)) l.turns l.fn.tokens

abbrev pub invariant-expr::listed-loop-turn : goal.invariant-expr::listed-loop-turn
invariant-expr::listed-loop-turn l = with_front_flag l.items (further spec.begins_expr (spec.expr l.turns (spec.exprs l.turns l.depth)) (l.turns - l._turn) l.tokens) ≡ several spec.begins_expr (spec.expr l.turns (spec.exprs l.turns l.depth)) l.turns l.fn.tokens
