-- A path that ends at the edge's source is made longer into its join with the edge's unit.
use Rattle.std.proofs.Common.{rules, ◌≡◌}
use Rattle.std.proofs.lemmas.Result.{IfOk-weaker}
use Rattle.partial_path.specs.declared.rule.End.TheVariants.{At}
use Rattle.path_join.specs.Units.{edge_alone, place_end, place_action}
use Rattle.path_join.specs.Extended.{rule_apart}
use Rattle.path_join.proofs.CodeExtended.{longer_is_rule, is_extended}
use Rattle.path_join.proofs.extending.extend_in_place.Goals as goal

pub returns-in-At-clause-rule : goal.returns-in-At-clause-rule
returns-in-At-clause-rule c =
    let same : c.in-At.spot ≡ c.spot_of-source.result = search rules in
    let ends : c.args.parts.now.end ≡ At c.spot_of-source.result = cc in
    IfOk-weaker c.enter.result _ _
    (λ longer f.
    longer_is_rule (rule_apart c.args.parts.now) c.spot_of-source.result (place_end c.edge_of-found.result.sink) (place_action c.args.graph.now c.edge_of-found.result.sink)
    (edge_alone c.args.edge) longer c.enter.new.parts c.requires.rule ends f)
    c.enter.ensures

pub returns-in-At-clause-extended : goal.returns-in-At-clause-extended
returns-in-At-clause-extended c =
    let same : c.in-At.spot ≡ c.spot_of-source.result = search rules in
    let ends : c.args.parts.now.end ≡ At c.spot_of-source.result = cc in
    IfOk-weaker c.enter.result _ _
    (λ longer f.
    is_extended c.args.graph.now (rule_apart c.args.parts.now) c.args.edge c.edge_of-found.result c.spot_of-source.result _ c.requires.rule c.edge_of-found.ensures.is
    c.spot_of-source.ensures c.edge_of-found.ensures.sink ends f)
    c.enter.ensures
