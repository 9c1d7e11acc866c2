-- Where the paths of runs end. No public clause cites this.
use Rattle.std.specs.Prelude.{List, map, Option, Some, None}
use Rattle.std.specs.Option.{option_and_then}
use Rattle.std.specs.List.{filter_map}
use Rattle.graph_nodes.specs.Graph.{Graph}
use Rattle.partial_path.specs.declared.config.Spot.{Spot}
use Rattle.partial_path.specs.declared.config.Spot.TheVariants.{Root, At}
use Rattle.partial_path.specs.declared.config.Config.{Config}
use Rattle.partial_path.specs.declared.config.EdgeAt.{EdgeAt}
use Rattle.partial_path.specs.Runs.{run}
use Rattle.shadowing.specs.declared.paths.EdgeStep.{EdgeStep}
use Rattle.whole_search.specs.declared.found.Hit.{Hit}
use Rattle.whole_search.specs.Walk.{edge_at}

-- the node at the spot
abbrev pub hit_at : Spot → Option Hit
hit_at Root = None
hit_at (At node) = Some (record { file = node.file; node = node.node })

-- the edges of a path
abbrev pub edges_of : List EdgeStep → List EdgeAt
edges_of path = map (λ (s : EdgeStep). edge_at s.edge.file s.edge.edge) path

-- the node at which the path ends, as a run from here
abbrev pub path_end : List Graph → Config → List EdgeStep → Option Hit
path_end files c path =
    option_and_then (λ (end : Config). hit_at end.spot) (run files c (edges_of path))

-- the nodes at which these paths end
abbrev pub path_ends : List Graph → Config → List (List EdgeStep) → List Hit
path_ends files c paths = filter_map (path_end files c) paths
