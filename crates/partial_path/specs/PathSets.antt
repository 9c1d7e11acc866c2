-- When partial paths are all of a file: one for each landing walk, and each is that walk.
use Rattle.std.specs.Prelude.{◌≡◌, ℕ, List, map, IsSome, Contains}
use Rattle.std.specs.List.{AllByRecursion}
use Rattle.graph_nodes.specs.Graph.{Graph}
use Rattle.partial_path.specs.declared.config.Config.{Config}
use Rattle.partial_path.specs.declared.config.EdgeAt.{EdgeAt}
use Rattle.partial_path.specs.declared.rule.Start.{Start}
use Rattle.partial_path.specs.Runs.{IsApart}
use Rattle.partial_path.specs.Rules.{Rule}
use Rattle.partial_path.specs.Apply.{apply, height}
use Rattle.partial_path.specs.FileNumbers.{IsOfFileZero}
use Rattle.partial_path.specs.Walks.{alone, run_from, highest_from, IsLandingWalk, Walk, walk_of, IsWeight}

-- the rule stands for the run of its own edges from its own start, in the file alone: applying it is that
-- run on every configuration, its peak is exact wherever it applies, and it names no other file
pub record IsRuleOf (g : Graph) (rule : Rule) : Type 0 where
  pub files : IsOfFileZero rule
  pub applies : (c : Config) → apply rule c ≡ run_from (alone g) rule.start rule.edges c
  pub peak : (c : Config) → IsSome (apply rule c) → height rule c ≡ highest_from (alone g) rule.start rule.edges c

-- the rule stands for a landing walk of the file
pub record IsLandingRule (g : Graph) (rule : Rule) : Type 0 where
  pub lands : IsLandingWalk g rule.start rule.edges
  pub exact : IsRuleOf g rule

-- the start and the edges of a rule
abbrev pub walk_of_rule : Rule → Walk
walk_of_rule rule = walk_of rule.start rule.edges

-- the path set of a file: a rule for each landing walk, exactly one, and no other
pub record IsPathSet (g : Graph) (rules : List Rule) : Type 0 where
  pub sound : AllByRecursion (IsLandingRule g) rules
  pub complete : (start : Start) (es : List EdgeAt) → IsLandingWalk g start es → Contains (map walk_of_rule rules) (walk_of start es)
  pub once : IsApart (map walk_of_rule rules)

-- a file as it is stored: its graph, its path set in some order, and its weight
pub record FileRules : Type 0 where
  pub graph : Graph
  pub rules : List Rule
  pub weight : ℕ

-- the file of these parts
abbrev pub file_rules : Graph → List Rule → ℕ → FileRules
file_rules graph rules weight = record { graph = graph; rules = rules; weight = weight }

-- the rules are the graph's path set, and the weight is its weight
pub record AreFileRules (file : FileRules) : Type 0 where
  pub rules : IsPathSet file.graph file.rules
  pub weight : IsWeight file.graph file.weight
