-- The path that enters the reference is its start.
use Rattle.std.proofs.Common.{◌≡◌, ◌≤◌, ap, sym, subst, ◌∙◌, List}
use Rattle.std.proofs.lemmas.Result.{IfOk-weaker}
use Rattle.graph_nodes.specs.declared.node.Place.TheVariants as place
use Rattle.graph_nodes.specs.Graph.{Graph}
use Rattle.partial_path.specs.declared.config.EdgeAt.{EdgeAt}
use Rattle.partial_path.specs.declared.rule.Start.TheVariants.{Before}
use Rattle.partial_path.specs.Spots.{node_at}
use Rattle.partial_path.specs.Rules.{Rule}
use Rattle.partial_path.specs.FileNumbers.{IsOfFileZero}
use Rattle.partial_path.specs.PathSets.{IsRuleOf}
use Rattle.path_join.specs.Units.{place_rule, place_action}
use Rattle.path_join.proofs.CodeUnits.{peak-low}
use Rattle.path_join.proofs.CodeExact.{opening-exact, reference-there}
use Rattle.path_join.proofs.units.opening.Goals as goal

pub returns-clause-rule : goal.returns-clause-rule
returns-clause-rule c =
    let g : Graph = c.args.graph.now in
    let rule : List EdgeAt → Rule = λ (es : List EdgeAt). place_rule g (Before (node_at 0 c.args.node)) (place.At c.args.node) es in
    IfOk-weaker c.place_entered.result
    (λ (path : Rule). path ≡ rule c.in_ok-edges.edges.items) (IsRuleOf g)
    (λ path e. subst (IsRuleOf g) (ap rule (sym c.in_ok-edges.ensures.items) ∙ sym e)
    (opening-exact g c.args.node (reference-there g.nodes c.args.node c.requires)))
    c.place_entered.ensures

pub returns-clause-peak : goal.returns-clause-peak
returns-clause-peak c =
    let g : Graph = c.args.graph.now in
    let rule : List EdgeAt → Rule = λ (es : List EdgeAt). place_rule g (Before (node_at 0 c.args.node)) (place.At c.args.node) es in
    IfOk-weaker c.place_entered.result
    (λ (path : Rule). path ≡ rule c.in_ok-edges.edges.items) (λ (path : Rule). path.peak ≤ 1)
    (λ path e. subst (λ (r : Rule). r.peak ≤ 1) (sym e) (peak-low (place_action g (place.At c.args.node))))
    c.place_entered.ensures

pub returns-clause-files : goal.returns-clause-files
returns-clause-files c =
    IfOk-weaker c.place_entered.result (IsRuleOf c.args.graph.now) IsOfFileZero (λ path h. h.files) (returns-clause-rule c)
