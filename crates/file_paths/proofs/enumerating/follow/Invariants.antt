use Rattle.std.proofs.Common.{ℕ, ◌≤◌, ◌+◌, ◌-◌, [], ◌∷◌, ◌++◌}
use Rattle.std.specs.List.{AllByRecursion}
use Rattle.partial_path.specs.Rules.{IsRule}
use Rattle.partial_path.specs.Walks.{IsWeight}
use Rattle.path_join.specs.Extended.{rule_apart}
use Rattle.file_paths.specs.declared.fault.TheConstants.{MAX_WEIGHT}
use Rattle.file_paths.specs.Finding.{IsFinding, IsShort}
use Rattle.file_paths.proofs.enumerating.follow.Given as goal

-- The path is the last of those begun, and the one that is counted next.
abbrev pub invariant-loop-found : goal.invariant-loop-found
invariant-loop-found l = record {
  finding : IsFinding l.graph l.found.paths.items (l.found.begun.items ++ rule_apart l.parts ∷ []) l.found.weight l.steps;
  rule : IsRule (rule_apart l.parts);
  short : IsShort (MAX_WEIGHT + 1) (rule_apart l.parts);
  begun : AllByRecursion (IsShort (MAX_WEIGHT + 1)) l.found.begun.items;
  light : l.found.weight ≤ MAX_WEIGHT;
  heavier : l.initial.found.weight ≤ l.found.weight;
  few : l.steps + 1 ≤ MAX_WEIGHT + 1;
  fewer : (weight : ℕ) → IsWeight l.graph weight → l.steps + 1 ≤ weight;
}

abbrev pub decreases-loop-found : goal.decreases-loop-found
decreases-loop-found l = (MAX_WEIGHT + 1) - l.found.weight
