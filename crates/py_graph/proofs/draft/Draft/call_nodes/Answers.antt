use Rattle.std.proofs.Common.{arith}
use Rattle.py_graph.proofs.Sound.{sound-after, sound-call}
use Rattle.py_graph.proofs.draft.Draft.call_nodes.Goals as goal

-- Both nodes or none.
pub invariant_of-self-2 : goal.invariant_of-self-2
invariant_of-self-2 c = record {
  sound =
      sound-after c.put_two.result c.self.inside.nodes.items _ c.put_two.new.nodes.items c.self.inside.edges.items c.put_two.ensures.ok c.put_two.ensures.err c.self.invariant.sound
      (sound-call c.self.inside.nodes.items c.self.inside.edges.items _ _ c.self.invariant.sound (omega (arith, c.len-at.ensures, c.if-at-ge-MAX_NODES.false)) (omega (arith, c.len-at.ensures)));
  dots = c.self.invariant.dots;
  calls = c.self.invariant.calls;
}
