use Rattle.std.proofs.Common.{subst, sym, true, ◌≡◌, List}
use Rattle.graph_nodes.specs.Graph.{is_definition_kind}
use Rattle.version_tree.specs.Contents.{FileRow}
use Rattle.nav_answers.specs.declared.found.AskFault.TheVariants.{NoDefinition}
use Rattle.nav_answers.specs.Sources.{graphs_seen}
use Rattle.nav_answers.proofs.Told.{kind_of, meant_is}
use Rattle.nav_answers.proofs.calling.callers.Goals as goal

pub callers_of-requires-clause-definition : goal.callers_of-requires-clause-definition
callers_of-requires-clause-definition g c _ _ =
    subst (λ (view : List FileRow). kind_of is_definition_kind (graphs_seen view) c.in-Ok.node.file c.in-Ok.node.node ≡ true) c.view.ensures
    (meant_is is_definition_kind NoDefinition c.view.result.now c.args.path.now c.args.at c.in-Ok.node (sym c.in-Ok.ensures))
