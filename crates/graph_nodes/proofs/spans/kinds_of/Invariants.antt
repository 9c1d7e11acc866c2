use Rattle.std.proofs.Common.{◌≡◌, ◌++◌, map}
use Rattle.graph_nodes.specs.declared.node.Node.{Node}
use Rattle.graph_nodes.proofs.spans.kinds_of.Given as goal

abbrev pub invariant-loop-node : goal.invariant-loop-node
invariant-loop-node l = l.kinds.items ++ map (λ (n : Node). n.kind) l.node-iterator.rest.items ≡ map (λ (n : Node). n.kind) l.fn.nodes.items
