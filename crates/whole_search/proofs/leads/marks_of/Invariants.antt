use Rattle.std.proofs.Common.{◌≡◌, length}
use Rattle.whole_search.proofs.Marks.{AreMarksFrom}
use Rattle.whole_search.proofs.leads.marks_of.Given as goal

abbrev pub invariant-loop-done : goal.invariant-loop-done
invariant-loop-done l =
    record {
      one_each : length l.marks.items ≡ length l.graph.nodes;
      later : AreMarksFrom l.graph l.marks.items l.done;
    }
