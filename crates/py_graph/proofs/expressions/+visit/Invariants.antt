-- What is left, from the graph so far, gives what the whole gives.
use Rattle.std.proofs.Common.{◌≡◌, map, reverse, ◌-◌, length, drop, take}
use Rattle.py_graph.specs.Expressions as row
use Rattle.py_graph.specs.Inside.{Grows, IsNode}
use Rattle.py_graph.proofs.expressions.+visit.Given as goal

abbrev pub invariant-parts-loop-e : goal.invariant-parts-loop-e
invariant-parts-loop-e l = (row.parts (map row.expr (drop l.e-index l.es)) l.l l.draft ≡ row.parts (map row.expr l.es) l.l l.fn.draft) × Grows l.fn.draft l.draft

abbrev pub invariant-operands-loop-e : goal.invariant-operands-loop-e
invariant-operands-loop-e l = (row.parts (map row.joined (drop l.e-index l.es)) l.l l.draft ≡ row.parts (map row.joined l.es) l.l l.fn.draft) × Grows l.fn.draft l.draft

abbrev pub invariant-arguments-loop-j : goal.invariant-arguments-loop-j
invariant-arguments-loop-j l = (row.arguments l.s l.j (map row.expr (drop l.j l.es)) l.l l.draft ≡ row.arguments l.s 0 (map row.expr l.es) l.l l.fn.draft) × Grows l.fn.draft l.draft

abbrev pub invariant-onward-loop-i : goal.invariant-onward-loop-i
invariant-onward-loop-i l = (row.onward l.going (reverse (map row.postfix (take (length l.posts - l.i) l.posts))) l.l l.draft
    ≡ row.onward l.t (reverse (map row.postfix l.posts)) l.l l.fn.draft) × Grows l.fn.draft l.draft × IsNode l.draft l.going
