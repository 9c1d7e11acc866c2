use Rattle.partial_path.specs.Tables.{AreTold}
use Rattle.partial_path.proofs.start_table.counts_begun.Given as goal

-- the numbers so far are those of as many paths
abbrev pub invariant-loop-i : goal.invariant-loop-i
invariant-loop-i l = AreTold l.before.items l.nodes l.i l.paths
