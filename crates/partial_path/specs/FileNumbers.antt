-- Which files a partial path names: the file numbers of its start and its end, of the scopes that it asks
-- for and makes, and of its edges.
use Rattle.std.specs.Prelude.{◌≡◌, ◌<◌, ◌+◌, ◌^◌, ℕ, All, ⊤}
use Rattle.std.specs.Option.{IfSome}
use Rattle.stacks_vars.specs.declared.scopes.NodeAt.{NodeAt}
use Rattle.stacks_vars.specs.declared.patterns.ScopePat.{ScopePat}
use Rattle.stacks_vars.specs.declared.patterns.SymPat.{SymPat}
use Rattle.stacks_vars.specs.declared.patterns.ScopeOut.{ScopeOut}
use Rattle.stacks_vars.specs.declared.patterns.SymOut.{SymOut}
use Rattle.partial_path.specs.declared.config.Spot.{Spot}
use Rattle.partial_path.specs.declared.config.Spot.TheVariants as spot
use Rattle.partial_path.specs.declared.config.EdgeAt.{EdgeAt}
use Rattle.partial_path.specs.declared.rule.Start.{Start}
use Rattle.partial_path.specs.declared.rule.Start.TheVariants.{Before, After}
use Rattle.partial_path.specs.declared.rule.End.{End}
use Rattle.partial_path.specs.declared.rule.End.TheVariants as end
use Rattle.partial_path.specs.Rules.{Rule}
use Rattle.partial_path.specs.Moved.{Fits}

-- the file's number meets the condition
abbrev pub NodeIn : (ℕ → Type 0) → NodeAt → Type 0
NodeIn F node = F node.file

-- the same of an edge's file
abbrev pub EdgeIn : (ℕ → Type 0) → EdgeAt → Type 0
EdgeIn F e = F e.file

-- where there is a file, its number meets the condition
abbrev pub SpotIn : (ℕ → Type 0) → Spot → Type 0
SpotIn F spot.Root = ⊤
SpotIn F (spot.At node) = NodeIn F node

-- the same of the node or the spot that a start names
abbrev pub StartIn : (ℕ → Type 0) → Start → Type 0
StartIn F (Before node) = NodeIn F node
StartIn F (After spot) = SpotIn F spot

-- the same of the spot that an end names; an end by the stack names none
abbrev pub EndIn : (ℕ → Type 0) → End → Type 0
EndIn F (end.At spot) = SpotIn F spot
EndIn F end.ByStack = ⊤

-- the same of each scope that is attached to a symbol
abbrev pub AskedIn : (ℕ → Type 0) → SymPat → Type 0
AskedIn F pat = IfSome pat.scopes (λ (s : ScopePat). All (NodeIn F) s.fixed)

-- the same of each scope that a made symbol has attached
abbrev pub MadeIn : (ℕ → Type 0) → SymOut → Type 0
MadeIn F out = IfSome out.scopes (λ (s : ScopeOut). All (NodeIn F) s.scopes)

-- each file number that the path names meets the condition
pub record RuleIn (F : ℕ → Type 0) (rule : Rule) : Type 0 where
  pub start : StartIn F rule.start
  pub end : EndIn F rule.end
  pub asked : All (AskedIn F) rule.pre.symbols
  pub asked_scopes : All (NodeIn F) rule.pre.scopes.fixed
  pub made : All (MadeIn F) rule.post.symbols
  pub made_scopes : All (NodeIn F) rule.post.scopes.scopes
  pub edges : All (EdgeIn F) rule.edges

-- the edge with that number of file 0, and the number of an edge
abbrev pub own_edge : ℕ → EdgeAt
own_edge edge = record { file = 0; edge = edge }

abbrev pub edge_number : EdgeAt → ℕ
edge_number e = e.edge

-- the path is of file 0 alone
abbrev pub IsOfFileZero : Rule → Type 0
IsOfFileZero = RuleIn (λ (file : ℕ). file ≡ 0)

-- with `base` added the file's number is still one of 32 bits
abbrev pub FitsFile : ℕ → ℕ → Type 0
FitsFile base file = base + file < 2 ^ 32

-- the path can be moved by `base`: so are all its file numbers
abbrev pub CanMove : ℕ → Rule → Type 0
CanMove base = RuleIn (FitsFile base)

-- a path of file 0 alone can be moved to any file, and applied there
abbrev pub FileZeroMoves : Type 0
FileZeroMoves = (base : ℕ) (rule : Rule) → base < 2 ^ 32 → IsOfFileZero rule → CanMove base rule × Fits base rule
