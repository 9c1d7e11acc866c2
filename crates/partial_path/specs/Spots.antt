-- Where a path can stand.
use Rattle.std.specs.Prelude.{ℕ, Bool, true, false, nat_eq, ◌&&◌, List}
use Rattle.stacks_vars.specs.declared.scopes.NodeAt.{NodeAt}
use Rattle.stacks_vars.specs.declared.stacks.Stacks.{Stacks}
use Rattle.graph_nodes.specs.Graph.{Graph}
use Rattle.graph_nodes.specs.Whole.{is_definition_of}
use Rattle.partial_path.specs.declared.config.Spot.{Spot}
use Rattle.partial_path.specs.declared.config.Spot.TheVariants.{Root, At}
use Rattle.partial_path.specs.declared.config.Config.{Config}

-- the node of that file at that position
abbrev pub node_at : ℕ → ℕ → NodeAt
node_at file node = record { file = file; node = node }

-- standing at the root, and at a node
abbrev pub at_root : Stacks → Config
at_root stacks = record { spot = Root; stacks = stacks }

abbrev pub at_node : NodeAt → Stacks → Config
at_node node stacks = record { spot = At node; stacks = stacks }

-- standing at a spot
abbrev pub standing_at : Spot → Stacks → Config
standing_at spot stacks = record { spot = spot; stacks = stacks }

-- whether the spot is the root
abbrev pub is_root : Spot → Bool
is_root Root = true
is_root (At node) = false

-- whether the spot is the node of that file at that position
abbrev pub is_node : ℕ → ℕ → Spot → Bool
is_node file n Root = false
is_node file n (At node) = nat_eq node.file file && nat_eq node.node n

-- whether the spot is a definition of the files
abbrev pub is_definition_spot : List Graph → Spot → Bool
is_definition_spot files Root = false
is_definition_spot files (At node) = is_definition_of files node.file node.node
