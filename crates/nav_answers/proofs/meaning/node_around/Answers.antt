use Rattle.std.proofs.Common.{sym, ◌∙◌, arith}
use Rattle.nav_answers.specs.Kinds.{is_of, is_meant}
use Rattle.nav_answers.proofs.Spanned.{spans_tell, span_met, spans_over}
use Rattle.nav_answers.proofs.meaning.node_around.Goals as goal

pub returns-then-is_meant : goal.returns-then-is_meant
returns-then-is_meant c =
    sym (spans_tell (is_of c.args.asked) c.args.line c.args.column c.args.file.now.graph.nodes c.spans-spans.result.now c.spans-spans.ensures
    ∙ c.loop-found.invariant
    ∙ span_met (is_meant (is_of c.args.asked) c.args.file.now.graph.nodes c.args.line c.args.column) c.spans-spans.result.now c.loop-found.found-index _
    c.loop-found-test.true (sym c.is_meant.ensures ∙ c.if-is_meant.true))

pub returns : goal.returns
returns c =
    sym (spans_tell (is_of c.args.asked) c.args.line c.args.column c.args.file.now.graph.nodes c.spans-spans.result.now c.spans-spans.ensures
    ∙ c.loop-found.invariant
    ∙ spans_over (is_meant (is_of c.args.asked) c.args.file.now.graph.nodes c.args.line c.args.column) c.spans-spans.result.now c.loop-found.found-index
    (omega (arith, c.loop-found-test.false)))
