-- What becomes of the runs of a reference: which of them are shadowed, and where the others end. No public clause
-- cites this.
use Rattle.std.specs.Prelude.{ℕ, List, map, filter, Bool, not, IsSome, All}
use Rattle.std.specs.Cmp.Lexicographic.{pointwise}
use Rattle.std.specs.Prelude.{◌&&◌, nat_eq, slice_get, false}
use Rattle.std.specs.Option.{option_map_or}
use Rattle.graph_nodes.specs.Graph.{Graph}
use Rattle.graph_nodes.specs.Whole.{edge_of}
use Rattle.partial_path.specs.declared.config.EdgeAt.{EdgeAt}
use Rattle.shadowing.specs.declared.paths.EdgeStep.{EdgeStep}
use Rattle.shadowing.specs.Shadow.{is_shadowed}
use Rattle.stitcher.specs.Found.{EdgePath}
use Rattle.whole_search.specs.declared.found.Hit.{Hit}
use Rattle.whole_search.specs.Answers.{path_of}
use Rattle.nav_answers.specs.Replies.{hit_of}

-- there is such an edge
abbrev pub IsEdgeOf : List Graph → EdgeAt → Type 0
IsEdgeOf files e = IsSome (edge_of files e.file e.edge)

-- the edges of the run are there
abbrev pub HasEdges : List Graph → EdgePath → Type 0
HasEdges files p = All (IsEdgeOf files) p.edges

-- the runs as paths with precedences
abbrev pub run_path : List Graph → EdgePath → List EdgeStep
run_path files p = path_of files p.edges

abbrev pub run_paths : List Graph → List EdgePath → List (List EdgeStep)
run_paths files runs = map (run_path files) runs

-- whether the path isn't shadowed by one of these
abbrev pub stays : List (List EdgeStep) → List EdgeStep → Bool
stays paths path = not (is_shadowed paths path)

-- where a run ends
abbrev pub end_of : EdgePath → Hit
end_of p = hit_of p.end

-- where those of the runs end that aren't shadowed by one of these
abbrev pub ends_in : List Graph → List (List EdgeStep) → List EdgePath → List Hit
ends_in files paths runs = map end_of (filter (λ (p : EdgePath). stays paths (run_path files p)) runs)

-- where those of the runs end that none of them shadows
abbrev pub ends_of : List Graph → List EdgePath → List Hit
ends_of files runs = ends_in files (run_paths files runs) runs

-- whether the step is by that edge, and a path by those edges
abbrev pub is_by : EdgeStep → EdgeAt → Bool
is_by step e = nat_eq step.edge.file e.file && nat_eq step.edge.edge e.edge

abbrev pub are_by : List EdgeStep → List EdgeAt → Bool
are_by path es = pointwise is_by path es

-- whether the path at that place is by those edges
abbrev pub is_next : List (List EdgeStep) → ℕ → List EdgeAt → Bool
is_next kept place es = option_map_or (λ (path : List EdgeStep). are_by path es) (slice_get kept place) false
