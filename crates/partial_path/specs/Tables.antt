-- What a table of starts tells: how many of a file's rules stand before those of each start, by the start's place. No
-- public clause cites this.
use Rattle.std.specs.Prelude.{◌≡◌, ℕ, ◌+◌, ◌<◌, ◌≤◌, List, length, Bool, true, ◌&&◌, nat_eq, nat_lt, slice_index, slice_index_or}
use Rattle.stacks_vars.specs.declared.scopes.NodeAt.{NodeAt}
use Rattle.partial_path.specs.declared.config.Spot.TheVariants as spot
use Rattle.partial_path.specs.declared.rule.Start.{Start}
use Rattle.partial_path.specs.declared.rule.Start.TheVariants.{Before, After}
use Rattle.partial_path.specs.Rules.{Rule}

-- whether a file of so many nodes has the node
abbrev pub has_node : ℕ → NodeAt → Bool
has_node nodes node = nat_eq node.file 0 && nat_lt node.node nodes

-- whether the start has a place in the table of such a file
abbrev pub has_place : ℕ → Start → Bool
has_place nodes (Before node) = has_node nodes node
has_place nodes (After spot.Root) = true
has_place nodes (After (spot.At node)) = has_node nodes node

-- its place: references by their nodes, then the root, then the nodes that were entered
abbrev pub place_in : ℕ → Start → ℕ
place_in nodes (Before node) = node.node
place_in nodes (After spot.Root) = nodes
place_in nodes (After (spot.At node)) = nodes + 1 + node.node

-- the numbers tell how many of the first n rules stand before those of each place
pub record AreCounts (before : List ℕ) (nodes n : ℕ) (rules : List Rule) : Type 0 where
  pub placed : (k : ℕ) (d : Rule) → k < n → has_place nodes (slice_index_or rules k d).start ≡ true
  pub bound : (p : ℕ) → p < length before → slice_index before p ≤ n
  pub less : (p k : ℕ) (d : Rule) → p < length before → k < slice_index before p → k < n → place_in nodes (slice_index_or rules k d).start < p
  pub more : (p k : ℕ) (d : Rule) → p < length before → slice_index before p ≤ k → k < n → p ≤ place_in nodes (slice_index_or rules k d).start

-- all rules so far have places within the table
pub record AreTold (before : List ℕ) (nodes n : ℕ) (rules : List Rule) : Type 0 where
  pub counts : AreCounts before nodes n rules
  pub below : (k : ℕ) (d : Rule) → k < n → place_in nodes (slice_index_or rules k d).start < length before

-- all of them do, where there is a number
abbrev pub IsTable : List ℕ → ℕ → List Rule → Type 0
IsTable before nodes rules = 0 < length before → AreCounts before nodes (length rules) rules

-- the run of a start that has a place, as the table tells it
pub record IsTold (before : List ℕ) (nodes : ℕ) (start : Start) (first last : ℕ) : Type 0 where
  pub placed : has_place nodes start ≡ true
  pub within : place_in nodes start + 1 < length before
  pub low : first ≡ slice_index before (place_in nodes start)
  pub high : last ≡ slice_index before (place_in nodes start + 1)
