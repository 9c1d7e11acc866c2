use Rattle.std.proofs.Common.{◌≤◌, ◌+◌, ◌-◌, length}
use Rattle.std.specs.Prelude.{All, IsTrue}
use Rattle.graph_nodes.specs.Whole.{is_definition_of}
use Rattle.partial_path.specs.Sources.{IsSourceFile, graphs_of}
use Rattle.back_stitch.specs.Lists.{most_lists}
use Rattle.back_stitch.proofs.Going.{IsGoing}
use Rattle.back_stitch.proofs.searching.search.Given as goal

abbrev pub invariant-loop-path : goal.invariant-loop-path
invariant-loop-path g l = record {
  few : l.tally.count ≤ most_lists;
  going : (sources : All IsSourceFile (g.P.BackSource.files l.source)) (at : IsTrue (is_definition_of (graphs_of (g.P.BackSource.files l.source)) l.fn.definition.file l.fn.definition.node)) → IsGoing (g.P.BackSource.files l.source) l.fn.definition sources at l.work.items l.tally.count l.tally.rows.items;
}

abbrev pub decreases-loop-path : goal.decreases-loop-path
decreases-loop-path g l = (most_lists - l.tally.count) + length l.work.items
