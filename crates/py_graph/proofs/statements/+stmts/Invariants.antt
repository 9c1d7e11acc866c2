-- What is left, from the graph so far, gives what the whole gives.
use Rattle.std.proofs.Common.{◌≡◌, ◌+◌, map, drop}
use Rattle.py_graph.specs.Blocks as blocks
use Rattle.py_graph.specs.Statements as row
use Rattle.py_graph.specs.Inside.{Grows}
use Rattle.py_graph.proofs.statements.+stmts.Given as goal

abbrev pub invariant-block-loop-j : goal.invariant-block-loop-j
invariant-block-loop-j l = (blocks.block (1 + l.j) (map row.stmt (drop l.j l.body)) l.c l.draft ≡ blocks.block 1 (map row.stmt l.body) l.c l.fn.draft) × Grows l.fn.draft l.draft

abbrev pub invariant-suite-loop-s : goal.invariant-suite-loop-s
invariant-suite-loop-s l = (blocks.suite (map row.stmt (drop l.s-index l.body)) l.c l.draft ≡ blocks.suite (map row.stmt l.body) l.c l.fn.draft) × Grows l.fn.draft l.draft

abbrev pub invariant-all_arms-loop-a : goal.invariant-all_arms-loop-a
invariant-all_arms-loop-a l = (blocks.suite (map row.arm (drop l.a-index l.arms)) l.c l.draft ≡ blocks.suite (map row.arm l.arms) l.c l.fn.draft) × Grows l.fn.draft l.draft
