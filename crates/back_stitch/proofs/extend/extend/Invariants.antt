use Rattle.std.proofs.Common.{ℕ, ◌≡◌, ◌≤◌, ◌++◌, List, length}
use Rattle.std.specs.Prelude.{IsTrue, option_copied}
use Rattle.graph_nodes.specs.Whole.{is_definition_of}
use Rattle.stacks_vars.specs.declared.scopes.NodeAt.{NodeAt}
use Rattle.partial_path.specs.Rules.{Rule}
use Rattle.partial_path.specs.Sources.{graphs_of}
use Rattle.back_stitch.specs.Lists.{most_lists}
use Rattle.back_stitch.specs.Held.{IsBehind, HasExtended}
use Rattle.back_stitch.proofs.extend.extend.Given as goal

abbrev pub invariant-loop-found : goal.invariant-loop-found
invariant-loop-found g l = record {
  few : l.tally.count ≤ most_lists;
  so_far : (gone : List (ℕ × Rule)) × (gone ++ g.P.BackSource.given l.source l.symbols l.next ≡ g.P.BackSource.given l.source l.symbols l.initial.next) × ((d : NodeAt) (paths : List (ℕ × Rule)) → IsTrue (is_definition_of (graphs_of (g.P.BackSource.files l.source)) d.file d.node) → IsBehind (g.P.BackSource.files l.source) d paths l.fn.spot (option_copied l.behind) → HasExtended (g.P.BackSource.files l.source) d paths gone l.initial.tally.count l.tally.count l.initial.tally.rows.items l.tally.rows.items l.initial.work.items l.work.items);
}

abbrev pub decreases-loop-found : goal.decreases-loop-found
decreases-loop-found g l = length (g.P.BackSource.given l.source l.symbols l.next)
