-- A partial path of one file, moved to that file's place in a list of files.
use Rattle.std.specs.Prelude.{ℕ, ◌+◌, map, ◌<◌, ◌^◌, MatchOption, All, ⊤}
use Rattle.std.specs.Option.{option_map}
use Rattle.stacks_vars.specs.declared.scopes.NodeAt.{NodeAt}
use Rattle.stacks_vars.specs.declared.patterns.ScopePat.{ScopePat}
use Rattle.stacks_vars.specs.declared.patterns.SymPat.{SymPat}
use Rattle.stacks_vars.specs.declared.patterns.Pre.{Pre}
use Rattle.stacks_vars.specs.declared.patterns.ScopeOut.{ScopeOut}
use Rattle.stacks_vars.specs.declared.patterns.SymOut.{SymOut}
use Rattle.stacks_vars.specs.declared.patterns.Post.{Post}
use Rattle.partial_path.specs.declared.config.Spot.{Spot}
use Rattle.partial_path.specs.declared.config.Spot.TheVariants as spot
use Rattle.partial_path.specs.declared.config.EdgeAt.{EdgeAt}
use Rattle.partial_path.specs.declared.rule.Start.{Start}
use Rattle.partial_path.specs.declared.rule.Start.TheVariants.{Before, After}
use Rattle.partial_path.specs.declared.rule.End.{End}
use Rattle.partial_path.specs.declared.rule.End.TheVariants as end
use Rattle.partial_path.specs.Rules.{Rule}

-- each with `base` added to its file's number
abbrev pub moved_node : ℕ → NodeAt → NodeAt
moved_node base node = record { file = base + node.file; node = node.node }

-- an edge: the number of its file is moved
abbrev pub moved_edge : ℕ → EdgeAt → EdgeAt
moved_edge base e = record { file = base + e.file; edge = e.edge }

-- a spot: its node is moved, and the root stays
abbrev pub moved_spot : ℕ → Spot → Spot
moved_spot base spot.Root = spot.Root
moved_spot base (spot.At node) = spot.At (moved_node base node)

-- a start: its node or its spot is moved
abbrev pub moved_start : ℕ → Start → Start
moved_start base (Before node) = Before (moved_node base node)
moved_start base (After spot) = After (moved_spot base spot)

-- an end: its spot is moved, and an end by the stack stays
abbrev pub moved_end : ℕ → End → End
moved_end base (end.At spot) = end.At (moved_spot base spot)
moved_end base end.ByStack = end.ByStack

-- scopes that are asked for: the fixed ones are moved
abbrev pub moved_scopes : ℕ → ScopePat → ScopePat
moved_scopes base pat = record { fixed = map (moved_node base) pat.fixed }

-- a symbol that is asked for: its attached scopes are moved
abbrev pub moved_symbol : ℕ → SymPat → SymPat
moved_symbol base pat = record { symbol = pat.symbol; scopes = option_map (moved_scopes base) pat.scopes }

-- a precondition: the scopes of its symbols and its own are moved
abbrev pub moved_pre : ℕ → Pre → Pre
moved_pre base pre = record { symbols = map (moved_symbol base) pre.symbols; scopes = moved_scopes base pre.scopes }

-- scopes that are made: they are moved, and the variable behind them stays
abbrev pub moved_scopes_out : ℕ → ScopeOut → ScopeOut
moved_scopes_out base out = record { scopes = map (moved_node base) out.scopes; tail = out.tail }

-- a symbol that is made: its attached scopes are moved
abbrev pub moved_symbol_out : ℕ → SymOut → SymOut
moved_symbol_out base out = record { symbol = out.symbol; scopes = option_map (moved_scopes_out base) out.scopes }

-- a postcondition: the scopes of its symbols and its own are moved
abbrev pub moved_post : ℕ → Post → Post
moved_post base post =
    record { symbols = map (moved_symbol_out base) post.symbols; scopes = moved_scopes_out base post.scopes }

-- the whole path: its ends, what it asks for and makes, and its edges are moved; its peak stays
abbrev pub moved : ℕ → Rule → Rule
moved base rule =
    record { start = moved_start base rule.start; end = moved_end base rule.end; pre = moved_pre base rule.pre; post = moved_post base rule.post; peak = rule.peak; edges = map (moved_edge base) rule.edges }

-- moved, the number of the node's file is one of 32 bits
abbrev pub FitsNode : ℕ → NodeAt → Type 0
FitsNode base node = base + node.file < 2 ^ 32

-- the same of a spot's node; the root has none
abbrev pub FitsSpot : ℕ → Spot → Type 0
FitsSpot base spot.Root = ⊤
FitsSpot base (spot.At node) = FitsNode base node

-- the same of an end's spot; an end by the stack has none
abbrev pub FitsEnd : ℕ → End → Type 0
FitsEnd base (end.At spot) = FitsSpot base spot
FitsEnd base end.ByStack = ⊤

-- the same of each scope that is attached to a made symbol
abbrev pub FitsSymbol : ℕ → SymOut → Type 0
FitsSymbol base out = MatchOption out.scopes ⊤ (λ (s : ScopeOut). All (FitsNode base) s.scopes)

-- all nodes that the path leads to or leaves on the stacks can be moved by `base`
pub record Fits (base : ℕ) (rule : Rule) : Type 0 where
  pub end : FitsEnd base rule.end
  pub symbols : All (FitsSymbol base) rule.post.symbols
  pub scopes : All (FitsNode base) rule.post.scopes.scopes
