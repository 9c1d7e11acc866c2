use Rattle.std.proofs.Common.{ap, ◌∙◌, sym, subst, arith, List}
use Rattle.graph_nodes.specs.declared.node.Node.{Node}
use Rattle.graph_nodes.specs.Graph.{Graph}
use Rattle.graph_nodes.specs.Checked.{has_scope}
use Rattle.py_graph.specs.Inside.{IsSound}
use Rattle.py_graph.proofs.Sound.{sound-node}
use Rattle.py_graph.proofs.draft.Draft.node.Goals as goal

-- The node fits, and its scope is there.
pub invariant_of-self-2 : goal.invariant_of-self-2
invariant_of-self-2 c = record {
  sound = subst (λ (ns : List Node). IsSound ns c.self.inside.edges.items) (sym c.in_ok-put_node.ensures.ok)
      (sound-node c.self.inside.nodes.items c.self.inside.edges.items (record { kind = c.args.kind; span = c.args.span }) c.self.invariant.sound (omega (arith, c.len-at.ensures, c.if-at-ge-MAX_NODES.false))
      (ap (λ (g : Graph). has_scope g.nodes c.args.kind) c.self.view_is ∙ c.requires.scope));
  dots = c.self.invariant.dots;
  calls = c.self.invariant.calls;
}
