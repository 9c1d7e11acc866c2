-- What following one edge makes of a configuration, and where a reference's paths start.
use Rattle.std.specs.Prelude.{ℕ, List, [], ◌∷◌, Bool, false, Option, Some, None, if◌then◌else◌}
use Rattle.std.specs.Option.{option_map, option_and_then, option_map_or}
use Rattle.graph_nodes.specs.declared.node.Node.{Node}
use Rattle.graph_nodes.specs.declared.node.Edge.{Edge}
use Rattle.graph_nodes.specs.declared.node.NodeKind.{NodeKind}
use Rattle.graph_nodes.specs.declared.node.NodeKind.TheVariants.{Scope, Push, PushScoped, Pop, PopScoped, Drops}
use Rattle.graph_nodes.specs.declared.node.Place.{Place}
use Rattle.graph_nodes.specs.declared.node.Place.TheVariants.{Root, Jump, At}
use Rattle.graph_nodes.specs.Graph.{Graph, is_reference_kind}
use Rattle.graph_nodes.specs.Whole.{node_of, edge_of, is_cut_of}
use Rattle.stacks_vars.specs.declared.scopes.NodeAt.{NodeAt}
use Rattle.stacks_vars.specs.declared.items.SymbolItem.{SymbolItem}
use Rattle.stacks_vars.specs.declared.stacks.Stacks.{Stacks}
use Rattle.stacks_vars.specs.declared.action.Action.{Action}
use Rattle.stacks_vars.specs.declared.action.Action.TheVariants as action
use Rattle.stacks_vars.specs.Enter.{enter, no_stacks, stacks_of}
use Rattle.partial_path.specs.declared.config.Spot.{Spot}
use Rattle.partial_path.specs.declared.config.Config.{Config}
use Rattle.partial_path.specs.declared.config.EdgeAt.{EdgeAt}
use Rattle.partial_path.specs.Spots.{node_at, at_root, at_node, is_root, is_node}

-- what a node of that file and of this kind does to the stacks when it is entered
abbrev pub action_of : ℕ → NodeKind → Action
action_of file (Scope exported) = action.Pass
action_of file (Push symbol reference) = action.Push symbol
action_of file (PushScoped symbol scope reference) = action.PushScoped symbol (node_at file scope)
action_of file (Pop symbol definition) = action.Pop symbol
action_of file (PopScoped symbol definition) = action.PopScoped symbol
action_of file Drops = action.Drops

-- the node is entered with these stacks; None where entry is refused
abbrev pub enter_node : NodeAt → Node → Stacks → Option Config
enter_node at node stacks = option_map (at_node at) (enter (action_of at.file node.kind) stacks)

-- jump goes on at the scope in front of the scope stack, which is taken off; with none it is refused
abbrev pub enter_jump : List SymbolItem → List NodeAt → Option Config
enter_jump symbols [] = None
enter_jump symbols (scope ∷ rest) = Some (at_node scope (stacks_of symbols rest))

-- the place of that file is entered with these stacks
abbrev pub enter_place : List Graph → ℕ → Place → Stacks → Option Config
enter_place files file Root stacks = Some (at_root stacks)
enter_place files file Jump stacks = enter_jump stacks.symbols stacks.scopes
enter_place files file (At n) stacks =
    option_and_then (λ (node : Node). enter_node (node_at file n) node stacks) (node_of files file n)

-- whether the spot is that place of the file; no path stands at jump
abbrev pub stands_at : ℕ → Place → Spot → Bool
stands_at file Root spot = is_root spot
stands_at file Jump spot = false
stands_at file (At n) spot = is_node file n spot

-- the edge of that file is followed: it has to leave where the path stands, and its sink is entered
abbrev pub follow : List Graph → ℕ → Edge → Config → Option Config
follow files file edge c =
    if stands_at file edge.source c.spot then enter_place files file edge.sink c.stacks else None

-- the configuration after the edge; None where there is no such edge, or it doesn't leave where the
-- path stands, or its sink refuses entry
abbrev pub step : List Graph → Config → EdgeAt → Option Config
step files c e = option_and_then (λ (edge : Edge). follow files e.file edge c) (edge_of files e.file e.edge)

-- whether a path is cut after the edge: its sink is the root, jump, an exported scope or a turning node
abbrev pub is_cut_edge : List Graph → EdgeAt → Bool
is_cut_edge files e =
    option_map_or (λ (edge : Edge). is_cut_of files e.file edge.sink) (edge_of files e.file e.edge) false

-- where the paths from a node start: a reference, entered with empty stacks
abbrev pub start_at : NodeAt → Node → Option Config
start_at at node = if is_reference_kind node.kind then enter_node at node no_stacks else None

-- the start of a reference of the files; None where the node is none
abbrev pub start : List Graph → NodeAt → Option Config
start files at = option_and_then (start_at at) (node_of files at.file at.node)
