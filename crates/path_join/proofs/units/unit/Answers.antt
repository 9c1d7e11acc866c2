-- The path that enters the edge's sink is the run of the edge.
use Rattle.std.proofs.Common.{rules, ◌≡◌, ◌≤◌, ap, sym, subst, ◌∙◌, List, [], ◌∷◌}
use Rattle.std.proofs.lemmas.Result.{IfOk-weaker}
use Rattle.graph_nodes.specs.Graph.{Graph}
use Rattle.partial_path.specs.declared.config.EdgeAt.{EdgeAt}
use Rattle.partial_path.specs.declared.rule.Start.TheVariants.{After}
use Rattle.partial_path.specs.Rules.{Rule}
use Rattle.partial_path.specs.FileNumbers.{IsOfFileZero}
use Rattle.partial_path.specs.PathSets.{IsRuleOf}
use Rattle.path_join.specs.Units.{edge_alone, place_rule, place_action}
use Rattle.path_join.proofs.CodeUnits.{peak-low}
use Rattle.path_join.proofs.CodeExact.{unit-exact}
use Rattle.path_join.proofs.units.unit.Goals as goal

pub returns-clause-rule : goal.returns-clause-rule
returns-clause-rule c =
    let g : Graph = c.args.graph.now in
    let start = After c.spot_of.result in
    let rule : List EdgeAt → Rule = λ (es : List EdgeAt). place_rule g start c.edge_of-found.result.sink es in
    let has : c.push.new.self.items ≡ edge_alone c.args.edge ∷ [] = search rules in
    IfOk-weaker c.place_entered.result
    (λ (path : Rule). path ≡ rule c.push.new.self.items) (IsRuleOf g)
    (λ path e. subst (IsRuleOf g) (ap rule (sym has) ∙ sym e)
    (unit-exact g c.args.edge c.edge_of-found.result c.spot_of.result c.edge_of-found.ensures.is c.spot_of.ensures c.edge_of-found.ensures.sink))
    c.place_entered.ensures

pub returns-clause-peak : goal.returns-clause-peak
returns-clause-peak c =
    let g : Graph = c.args.graph.now in
    let start = After c.spot_of.result in
    let rule : List EdgeAt → Rule = λ (es : List EdgeAt). place_rule g start c.edge_of-found.result.sink es in
    IfOk-weaker c.place_entered.result
    (λ (path : Rule). path ≡ rule c.push.new.self.items) (λ (path : Rule). path.peak ≤ 1)
    (λ path e. subst (λ (r : Rule). r.peak ≤ 1) (sym e) (peak-low (place_action g c.edge_of-found.result.sink)))
    c.place_entered.ensures

pub returns-clause-files : goal.returns-clause-files
returns-clause-files c =
    IfOk-weaker c.place_entered.result (IsRuleOf c.args.graph.now) IsOfFileZero (λ path h. h.files) (returns-clause-rule c)
