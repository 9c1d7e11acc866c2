-- How a file's paths are kept: their parts in pools, and a row for each path that tells where its parts stand. No
-- public clause cites this.
use Rattle.std.specs.Prelude.{◌≡◌, ℕ, zero, suc, ◌+◌, ◌≤◌, List, ◌++◌, map, take, drop, length}
use Rattle.stacks_vars.specs.declared.scopes.NodeAt.{NodeAt}
use Rattle.stacks_vars.specs.declared.patterns.SymPat.{SymPat}
use Rattle.stacks_vars.specs.declared.patterns.Pre.{Pre}
use Rattle.stacks_vars.specs.declared.patterns.SymOut.{SymOut}
use Rattle.stacks_vars.specs.declared.patterns.Tail.{Tail}
use Rattle.stacks_vars.specs.declared.patterns.Tail.TheVariants as tail
use Rattle.stacks_vars.specs.declared.patterns.Post.{Post}
use Rattle.partial_path.specs.declared.config.Spot.TheVariants as spot
use Rattle.partial_path.specs.declared.config.EdgeAt.{EdgeAt}
use Rattle.partial_path.specs.declared.rule.Start.{Start}
use Rattle.partial_path.specs.declared.rule.Start.TheVariants as start
use Rattle.partial_path.specs.declared.rule.End.{End}
use Rattle.partial_path.specs.declared.rule.End.TheVariants as end
use Rattle.partial_path.specs.declared.path_row.RowStart.{RowStart}
use Rattle.partial_path.specs.declared.path_row.RowStart.TheVariants.{Before, Root, After}
use Rattle.partial_path.specs.declared.path_row.PathRow.{PathRow}
use Rattle.partial_path.specs.declared.pools.Pools.{Pools}
use Rattle.partial_path.specs.Spots.{node_at}
use Rattle.partial_path.specs.Rules.{Rule, IsRule, rule_of}
use Rattle.partial_path.specs.FileNumbers.{own_edge}

-- so many items of a pool from that place on
abbrev pub part_of : {X : Type 0} → ℕ → ℕ → List X → List X
part_of from len items = take len (drop from items)

-- they lie within the pool
abbrev pub IsPartOf : {X : Type 0} → ℕ → ℕ → List X → Type 0
IsPartOf from len items = from + len ≤ length items

-- they are these ones
pub record IsPut {X : Type 0} (from len : ℕ) (pool items : List X) : Type 0 where
  pub within : IsPartOf from len pool
  pub value : part_of from len pool ≡ items

-- the start of a path that is kept, in file 0
abbrev pub start_of : RowStart → Start
start_of (Before node) = start.Before (node_at 0 node)
start_of Root = start.After spot.Root
start_of (After node) = start.After (spot.At (node_at 0 node))

-- its end, which is kept as a number
abbrev pub end_of : ℕ → End
end_of zero = end.At spot.Root
end_of (suc zero) = end.ByStack
end_of (suc (suc node)) = end.At (spot.At (node_at 0 node))

-- the variable behind the scopes that it makes, which is kept as a number
abbrev pub kept_tail : ℕ → Tail
kept_tail zero = tail.Nil
kept_tail (suc zero) = tail.Front
kept_tail (suc (suc place)) = tail.Item place

-- a precondition of these symbols and scopes
abbrev pub pre_of : List SymPat → List NodeAt → Pre
pre_of symbols fixed = record { symbols = symbols; scopes = record { fixed = fixed } }

-- a postcondition of these symbols, scopes and variable
abbrev pub post_of : List SymOut → List NodeAt → Tail → Post
post_of symbols scopes tail = record { symbols = symbols; scopes = record { scopes = scopes; tail = tail } }

-- what a row's path asks for, what it makes, and its edges
abbrev pub pre_in : Pools → PathRow → Pre
pre_in pools row =
    pre_of (part_of row.asked_from row.asked pools.asked.items) (part_of row.nodes_from row.fixed pools.nodes.items)

abbrev pub post_in : Pools → PathRow → Post
post_in pools row =
    post_of (part_of row.made_from row.made pools.made.items) (part_of (row.nodes_from + row.fixed) row.scopes pools.nodes.items)
    (kept_tail row.tail)

abbrev pub edges_in : Pools → PathRow → List EdgeAt
edges_in pools row = map own_edge (part_of row.edges_from row.edges pools.edges.items)

-- the path of a row
abbrev pub rule_in : Pools → PathRow → Rule
rule_in pools row =
    rule_of (start_of row.start) (end_of row.end) (pre_in pools row) (post_in pools row) row.peak (edges_in pools row)

-- the row's parts lie within the pools, and make a path
pub record IsRowIn (pools : Pools) (row : PathRow) : Type 0 where
  pub asked : IsPartOf row.asked_from row.asked pools.asked.items
  pub fixed : IsPartOf row.nodes_from row.fixed pools.nodes.items
  pub made : IsPartOf row.made_from row.made pools.made.items
  pub scopes : IsPartOf (row.nodes_from + row.fixed) row.scopes pools.nodes.items
  pub edges : IsPartOf row.edges_from row.edges pools.edges.items
  pub rule : IsRule (rule_in pools row)

-- the paths of rows, in their order
abbrev pub rules_in : Pools → List PathRow → List Rule
rules_in pools rows = map (rule_in pools) rows

-- the list holds the other one first
abbrev pub Begins : {X : Type 0} → List X → List X → Type 0
Begins {X} xs ys = (more : List X) × (ys ≡ xs ++ more)

-- pools to which parts were added
pub record AreAddedTo (old new : Pools) : Type 0 where
  pub asked : Begins old.asked.items new.asked.items
  pub made : Begins old.made.items new.made.items
  pub nodes : Begins old.nodes.items new.nodes.items
  pub edges : Begins old.edges.items new.edges.items

-- the row's path is this one
pub record IsKept (pools : Pools) (row : PathRow) (path : Rule) : Type 0 where
  pub within : IsRowIn pools row
  pub same : rule_in pools row ≡ path
