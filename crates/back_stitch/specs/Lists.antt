-- Back lists of a definition: lists of edges that lead to it from a place where paths begin, and leave no symbols; and
-- the references from which a bounded complete run leads to it.
use Rattle.std.specs.Prelude.{◌≡◌, ◌≢◌, ◌<◌, ◌≤◌, ◌↔◌, ℕ, List, [], length, Some, IsTrue, IsSomeAnd, Contains, ◌⊎◌}
use Rattle.std.specs.List.{AllByRecursion}
use Rattle.list_facts.specs.Apart.{Pairs}
use Rattle.graph_nodes.specs.Graph.{Graph}
use Rattle.stacks_vars.specs.declared.scopes.NodeAt.{NodeAt}
use Rattle.stacks_vars.specs.declared.stacks.Stacks.{Stacks}
use Rattle.stacks_vars.specs.Enter.{no_stacks}
use Rattle.partial_path.specs.declared.config.Spot.TheVariants.{At}
use Rattle.partial_path.specs.declared.config.Config.{Config}
use Rattle.partial_path.specs.declared.config.EdgeAt.{EdgeAt}
use Rattle.partial_path.specs.declared.bounds.Bounds.{Bounds}
use Rattle.partial_path.specs.declared.rule.Start.{Start}
use Rattle.partial_path.specs.declared.rule.Start.TheVariants.{Before}
use Rattle.partial_path.specs.Step.{start}
use Rattle.partial_path.specs.Runs.{run, IsApart}
use Rattle.partial_path.specs.Counted.{IsBoundedComplete}
use Rattle.partial_path.specs.Rules.{start_spot}
use Rattle.partial_path.specs.Walks.{run_from, highest_from, starts_walks_of, Walk, walk_of}
use Rattle.back_stitch.specs.Cuts.{HoldExported}

-- how many edges a back list may have, how many symbols may stand on a stack on its way, and how many lists there may
-- be before there are too many
abbrev pub most_edges : ℕ
most_edges = 128

abbrev pub most_depth : ℕ
most_depth = 48

abbrev pub most_lists : ℕ
most_lists = 8192

-- at the start, with these stacks: a reference isn't entered yet
abbrev pub at_start : Start → Stacks → Config
at_start start stacks = record { spot = start_spot start; stacks = stacks }

-- with these stacks the edges lead from the start to the node, leave no symbols, and have no more symbols on the way
-- than they may
pub record LeadTo (files : List Graph) (d : NodeAt) (start : Start) (es : List EdgeAt) (stacks : Stacks) : Type 0 where
  pub end : Config
  pub runs : run_from files start es (at_start start stacks) ≡ Some end
  pub there : end.spot ≡ At d
  pub resolved : end.stacks.symbols ≡ []
  pub shallow : highest_from files start es (at_start start stacks) ≤ most_depth

-- a back list of the node: edges, not none and not too many, from a reference that isn't entered yet or from a place
-- where paths are cut, that lead to the node from some stacks which hold no scopes but exported ones
pub record IsBackList (files : List Graph) (d : NodeAt) (list : Walk) : Type 0 where
  pub starts : IsTrue (starts_walks_of files list.start)
  pub nonempty : list.edges ≢ []
  pub short : length list.edges ≤ most_edges
  pub stacks : Stacks
  pub exported : HoldExported files stacks
  pub leads : LeadTo files d list.start list.edges stacks

-- the node has too many back lists
abbrev pub HasMany : List Graph → NodeAt → Type 0
HasMany files d = (lists : List Walk) × IsApart lists × AllByRecursion (IsBackList files d) lists × (most_lists < length lists)

-- a back list that begins before the reference, and leads to the node with empty stacks too
abbrev pub BeginsList : List Graph → NodeAt → NodeAt → Type 0
BeginsList files d r = (es : List EdgeAt) × IsBackList files d (walk_of (Before r) es) × LeadTo files d (Before r) es no_stacks

-- the bounds of a query that states none
abbrev pub usual : Bounds
usual = record { edges = most_edges; depth = most_depth }

-- some bounded complete run from the reference ends at the node
abbrev pub Reaches : List Graph → NodeAt → NodeAt → Type 0
Reaches files d r =
    IsSomeAnd (start files r)
    (λ (c : Config). (es : List EdgeAt) × IsBoundedComplete usual files c es × IsSomeAnd (run files c es) (λ (end : Config). end.spot ≡ At d))

-- the one node comes before the other: by file and then by position
abbrev pub ComesBefore : NodeAt → NodeAt → Type 0
ComesBefore a b = (a.file < b.file) ⊎ ((a.file ≡ b.file) × (a.node < b.node))

-- exactly the references from which a bounded complete run leads to the node, each once in file order
pub record AreThoseThatReach (files : List Graph) (d : NodeAt) (rows : List NodeAt) : Type 0 where
  pub rising : Pairs ComesBefore rows
  pub exact : (r : NodeAt) → Contains rows r ↔ Reaches files d r
