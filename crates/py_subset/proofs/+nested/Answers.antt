use Rattle.std.proofs.Common.{rules, ◌≡◌, true, arith}
use Rattle.py_subset.specs.declared.token.Mark.TheVariants as m
use Rattle.py_subset.specs.Marks.{same}
use Rattle.py_subset.specs.Language.{next}
use Rattle.py_subset.specs.Parsing as spec
use Rattle.py_subset.proofs.Turns.{further-keeps}
use Rattle.py_subset.proofs.+nested.Goals as goal

-- An expression behind a comma is the next of the list.
pub expr::listed-loop-turn-preserved : goal.expr::listed-loop-turn-preserved
expr::listed-loop-turn-preserved t c =
    let comma : same (next c.loop-turn.tokens) m.Comma ≡ true = search rules in
    let begins : spec.begins_expr (next c.pass.new.self) ≡ true = search rules in
    rw c.in_ok-push-2.ensures.ok
    (further-keeps spec.begins_expr (spec.expr c.args.turns (spec.exprs c.args.turns c.args.depth)) c.args.turns c.loop-turn._turn c.loop-turn.tokens c.pass.new.self _ c.loop-turn.items c.in_ok-expr-2.field-0 _
    (omega arith) comma c.pass.ensures begins c.in_ok-expr-2.ensures c.loop-turn.invariant)
