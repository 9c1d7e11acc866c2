-- The partial paths of one edge and of a reference's start. What they are said to be is said by what they
-- do; here is how they are made.
use Rattle.std.specs.Prelude.{◌≡◌, ◌≤◌, ℕ, List, [], ◌∷◌, Option, Some, None, slice_get}
use Rattle.std.specs.Option.{option_map, option_and_then, option_map_or}
use Rattle.graph_nodes.specs.declared.node.Edge.{Edge}
use Rattle.graph_nodes.specs.declared.node.Node.{Node}
use Rattle.graph_nodes.specs.declared.node.Place.{Place}
use Rattle.graph_nodes.specs.declared.node.Place.TheVariants as place
use Rattle.graph_nodes.specs.Graph.{Graph}
use Rattle.stacks_vars.specs.declared.scopes.NodeAt.{NodeAt}
use Rattle.stacks_vars.specs.declared.action.Action.{Action}
use Rattle.stacks_vars.specs.declared.action.Action.TheVariants.{Pass, Push, PushScoped, Pop, PopScoped, Drops}
use Rattle.stacks_vars.specs.declared.patterns.ScopePat.{ScopePat}
use Rattle.stacks_vars.specs.declared.patterns.SymPat.{SymPat}
use Rattle.stacks_vars.specs.declared.patterns.Pre.{Pre}
use Rattle.stacks_vars.specs.declared.patterns.Tail.{Tail}
use Rattle.stacks_vars.specs.declared.patterns.Tail.TheVariants.{Nil, Front, Item}
use Rattle.stacks_vars.specs.declared.patterns.ScopeOut.{ScopeOut}
use Rattle.stacks_vars.specs.declared.patterns.SymOut.{SymOut}
use Rattle.stacks_vars.specs.declared.patterns.Post.{Post}
use Rattle.partial_path.specs.declared.config.Spot.{Spot}
use Rattle.partial_path.specs.declared.config.Spot.TheVariants as spot
use Rattle.partial_path.specs.declared.config.EdgeAt.{EdgeAt}
use Rattle.partial_path.specs.declared.rule.Start.{Start}
use Rattle.partial_path.specs.declared.rule.Start.TheVariants.{After}
use Rattle.partial_path.specs.declared.rule.End.{End}
use Rattle.partial_path.specs.declared.rule.End.TheVariants.{At, ByStack}
use Rattle.partial_path.specs.Step.{action_of}
use Rattle.partial_path.specs.Spots.{node_at}
use Rattle.partial_path.specs.Rules.{Rule, rule_of}
use Rattle.partial_path.specs.FileNumbers.{IsOfFileZero}
use Rattle.partial_path.specs.PathSets.{IsRuleOf}

-- the spot at a place of a file that stands alone; no path stands at the jump
abbrev pub place_spot : Place → Option Spot
place_spot place.Root = Some spot.Root
place_spot place.Jump = None
place_spot (place.At n) = Some (spot.At (node_at 0 n))

-- the edge of the file alone
abbrev pub edge_alone : ℕ → EdgeAt
edge_alone e = record { file = 0; edge = e }

-- the start after the source of the file's edge
abbrev pub after_source : Graph → ℕ → Option Start
after_source g e = option_and_then (λ (edge : Edge). option_map After (place_spot edge.source)) (slice_get g.edges e)

-- a path of the file's one edge, from after its source: it does what following the edge does
pub record IsUnit (g : Graph) (e : ℕ) (step : Rule) : Type 0 where
  pub start : after_source g e ≡ Some step.start
  pub edges : step.edges ≡ edge_alone e ∷ []
  pub low : step.peak ≤ 1
  pub rule : IsRuleOf g step
  pub files : IsOfFileZero step

-- a symbol asked for, and one made, plain or with attached scopes
abbrev pub pat_of : List ℕ → Option ScopePat → SymPat
pat_of symbol scopes = record { symbol = symbol; scopes = scopes }

abbrev pub out_of : List ℕ → Option ScopeOut → SymOut
out_of symbol scopes = record { symbol = symbol; scopes = scopes }

-- any scopes, and scopes that are made
abbrev pub any_scopes : ScopePat
any_scopes = record { fixed = [] }

abbrev pub scopes_out : List NodeAt → Tail → ScopeOut
scopes_out scopes tail = record { scopes = scopes; tail = tail }

-- a precondition of these symbols, and a postcondition
abbrev pub asks : List SymPat → Pre
asks symbols = record { symbols = symbols; scopes = any_scopes }

abbrev pub makes : List SymOut → Tail → Post
makes symbols tail = record { symbols = symbols; scopes = scopes_out [] tail }

-- what a node with this action asks for
abbrev pub asked_by : Action → Pre
asked_by Pass = asks []
asked_by (Push symbol) = asks []
asked_by (PushScoped symbol scope) = asks []
asked_by (Pop symbol) = asks (pat_of symbol None ∷ [])
asked_by (PopScoped symbol) = asks (pat_of symbol (Some any_scopes) ∷ [])
asked_by Drops = asks []

-- what it makes
abbrev pub made_by : Action → Post
made_by Pass = makes [] Front
made_by (Push symbol) = makes (out_of symbol None ∷ []) Front
made_by (PushScoped symbol scope) = makes (out_of symbol (Some (scopes_out (scope ∷ []) Front)) ∷ []) Front
made_by (Pop symbol) = makes [] Front
made_by (PopScoped symbol) = makes [] (Item 0)
made_by Drops = makes [] Nil

-- how many symbols there are on the way, of those that it asks for or makes
abbrev pub peak_by : Action → ℕ
peak_by Pass = 0
peak_by (Push symbol) = 1
peak_by (PushScoped symbol scope) = 1
peak_by (Pop symbol) = 1
peak_by (PopScoped symbol) = 1
peak_by Drops = 0

-- the path that enters a node with this action
abbrev pub entry_rule : Start → End → Action → List EdgeAt → Rule
entry_rule start end action edges = rule_of start end (asked_by action) (made_by action) (peak_by action) edges

-- where a path ends that enters the place of a file that stands alone, and what it does there
abbrev pub place_end : Place → End
place_end place.Root = At spot.Root
place_end place.Jump = ByStack
place_end (place.At n) = At (spot.At (node_at 0 n))

abbrev pub place_action : Graph → Place → Action
place_action g place.Root = Pass
place_action g place.Jump = Pass
place_action g (place.At n) = option_map_or (λ (node : Node). action_of 0 node.kind) (slice_get g.nodes n) Pass

-- the path of these edges that enters the place
abbrev pub place_rule : Graph → Start → Place → List EdgeAt → Rule
place_rule g start place edges = entry_rule start (place_end place) (place_action g place) edges
