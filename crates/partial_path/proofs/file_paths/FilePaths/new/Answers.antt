use Rattle.std.proofs.Common.{sym, subst, List}
use Rattle.std.specs.Prelude.{IsPermutation}
use Rattle.partial_path.specs.Starts.{IsByStart}
use Rattle.partial_path.specs.Heads.{AreFirstHeads}
use Rattle.partial_path.specs.Tables.{IsTable}
use Rattle.partial_path.specs.Keys.{IsByKey}
use Rattle.partial_path.specs.Rules.{Rule}
use Rattle.partial_path.specs.Ends.{AreEndMarks}
use Rattle.partial_path.specs.PathSets.{IsPathSet}
use Rattle.partial_path.proofs.KeyOrders.{by_start_from_key}
use Rattle.partial_path.proofs.Reordered.{path_set_reordered, set_of_file_zero}
use Rattle.partial_path.proofs.file_paths.FilePaths.new.Goals as goal

-- what is kept is what was sorted
pub of-requires : goal.of-requires
of-requires c =
    set_of_file_zero c.args.graph _ (path_set_reordered c.args.graph c.args.paths.items _ c.sort_paths.ensures.permutation c.requires.paths)

pub returns-clause-paths : goal.returns-clause-paths
returns-clause-paths c = subst (IsPermutation c.args.paths.items) (sym c.in_ok-paths.ensures) c.sort_paths.ensures.permutation

pub returns-clause-order : goal.returns-clause-order
returns-clause-order c = subst IsByStart (sym c.in_ok-paths.ensures) (by_start_from_key _ c.sort_paths.ensures.keys)

pub returns-clause-keys : goal.returns-clause-keys
returns-clause-keys c = subst IsByKey (sym c.in_ok-paths.ensures) c.sort_paths.ensures.keys

pub invariant_of-result : goal.invariant_of-result
invariant_of-result c = (
  record {
    sets = record {
      rules = subst (IsPathSet c.args.graph) (sym c.in_ok-paths.ensures) (path_set_reordered c.args.graph c.args.paths.items _ c.sort_paths.ensures.permutation c.requires.paths);
      weight = c.requires.weight;
    };
    order = subst IsByKey (sym c.in_ok-paths.ensures) c.sort_paths.ensures.keys;
    heads = subst (AreFirstHeads c.of-starts.result.heads.items) c.lent.ensures c.of-starts.ensures.heads;
    table = subst (IsTable c.of-starts.result.before.items c.of-starts.result.nodes) c.lent.ensures c.of-starts.ensures.table;
  },
  subst (λ (rules : List Rule). AreEndMarks rules c.in_ok-ends.ends.root.items c.in_ok-ends.ends.stack.items) c.lent-2.ensures c.in_ok-ends.ensures,
)
