-- The joined path, taken apart, is the rule that it was; it was joined with a unit of the edge.
use Rattle.std.proofs.Common.{rules, ◌≡◌, ap, ◌∙◌, sym, subst, Some}
use Rattle.partial_path.specs.Rules.{IsRule}
use Rattle.path_join.specs.Extended.{rule_apart}
use Rattle.path_join.proofs.CodeExtended.{unit-joined}
use Rattle.path_join.proofs.extending.extend_anew.Goals as goal

pub returns-clause-rule : goal.returns-clause-rule
returns-clause-rule c = λ _. subst IsRule (sym c.into_parts-2.ensures.value) c.into_parts-2.ensures.rule

pub returns-in_default-clause-extended : goal.returns-in_default-clause-extended
returns-in_default-clause-extended c =
    let same : c.whole-path.result ≡ rule_apart c.args.parts.now = c.whole-path.ensures ∙ ap rule_apart c.replace.ensures.value in
    unit-joined c.args.graph.now _ c.args.edge c.in_ok-step.step c.whole-path.result _ c.in_ok-longer.field-0 same (search rules)
    c.in_ok-step.ensures.start c.in_ok-step.ensures.edges c.in_ok-step.ensures.peak c.in_ok-step.ensures.rule c.in_ok-step.ensures.files
    c.in_ok-longer.ensures.joined c.in_ok-longer.ensures.none

pub returns-clause-extended : goal.returns-clause-extended
returns-clause-extended c =
    let same : c.whole-path.result ≡ rule_apart c.args.parts.now = c.whole-path.ensures ∙ ap rule_apart c.replace.ensures.value in
    unit-joined c.args.graph.now _ c.args.edge c.in_ok-step.step c.whole-path.result _ c.in_ok-longer.field-0 same (c.in-Some.is ∙ ap Some (sym c.into_parts-2.ensures.value))
    c.in_ok-step.ensures.start c.in_ok-step.ensures.edges c.in_ok-step.ensures.peak c.in_ok-step.ensures.rule c.in_ok-step.ensures.files
    c.in_ok-longer.ensures.joined c.in_ok-longer.ensures.none
