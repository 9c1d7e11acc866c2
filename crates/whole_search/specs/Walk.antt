-- Which runs the search meets, in the order in which it meets them. No public clause cites this: the
-- answers are stated over all runs, and the lemmas tie the two.
use Rattle.std.specs.Prelude.{◌≡◌, ◌≢◌, IsTrue, IsSome, ℕ, zero, suc, ◌+◌, List, [], ◌∷◌, ◌++◌, map, reverse, length, Bool, true, false, not, ◌&&◌, ◌||◌, nat_lt, nat_le, if◌then◌else◌, slice_get}
use Rattle.std.specs.Option.{option_map_or}
use Rattle.std.specs.List.{list_any, filter, flat_map}
use Rattle.graph_nodes.specs.Graph.{Graph}
use Rattle.graph_nodes.specs.Out.{edges_from}
use Rattle.graph_nodes.specs.declared.node.Place.{Place}
use Rattle.graph_nodes.specs.declared.node.Place.TheVariants as place
use Rattle.graph_nodes.specs.Limits.{max_nodes}
use Rattle.partial_path.specs.declared.config.Spot.{Spot}
use Rattle.partial_path.specs.declared.config.Spot.TheVariants.{Root, At}
use Rattle.partial_path.specs.declared.config.Config.{Config}
use Rattle.partial_path.specs.declared.config.EdgeAt.{EdgeAt}
use Rattle.partial_path.specs.declared.bounds.Bounds.{Bounds}
use Rattle.partial_path.specs.Spots.{is_definition_spot}
use Rattle.partial_path.specs.Step.{step, is_cut_edge}
use Rattle.partial_path.specs.Runs.{run, after_cuts}
use Rattle.partial_path.specs.Same.{config_eq}

-- the edge of that file at that position
abbrev pub edge_at : ℕ → ℕ → EdgeAt
edge_at file e = record { file = file; edge = e }

-- the edges of this file that leave the place, by position
abbrev pub out_of_file : ℕ → Place → Graph → List EdgeAt
out_of_file file at g = map (edge_at file) (edges_from g at)

-- the edges of these files that leave the root, by file and then by position; `file` is the first one's place
abbrev pub out_of_root : ℕ → List Graph → List EdgeAt
out_of_root file [] = []
out_of_root file (g ∷ files) = out_of_file file place.Root g ++ out_of_root (file + 1) files

-- the edges that leave the spot, by file and then by position
abbrev pub out : List Graph → Spot → List EdgeAt
out files Root = out_of_root 0 files
out files (At node) =
    option_map_or (out_of_file node.file (place.At node.node)) (slice_get files node.file) []

-- whether the configuration after this edge leaves a run straight that met these configurations at its cuts
abbrev pub keeps_straight : List Graph → List Config → EdgeAt → Config → Bool
keeps_straight files met e next = not (is_cut_edge files e && list_any (config_eq next) met)

-- whether the edge can be followed from here and leaves the run straight
abbrev pub can_follow : List Graph → List Config → Config → EdgeAt → Bool
can_follow files met at e = option_map_or (keeps_straight files met e) (step files at e) false

-- the run with one more edge
abbrev pub with_edge : List EdgeAt → EdgeAt → List EdgeAt
with_edge es e = es ++ e ∷ []

-- the straight runs of one edge more, from where the run stands
abbrev pub longer_from : List Graph → Config → List EdgeAt → Config → List (List EdgeAt)
longer_from files c es at =
    map (with_edge es)
    (filter (can_follow files (c ∷ after_cuts files c es) at) (out files at.spot))

-- the straight runs of one edge more
abbrev pub longer_runs : List Graph → Config → List EdgeAt → List (List EdgeAt)
longer_runs files c es = option_map_or (longer_from files c es) (run files c es) []

-- whether the last edge is a cut edge
abbrev pub ends_cut : List Graph → List EdgeAt → Bool
ends_cut files [] = false
ends_cut files (e ∷ []) = is_cut_edge files e
ends_cut files (e ∷ next ∷ es) = ends_cut files (next ∷ es)

-- whether every configuration on the run has at most so many symbols
abbrev pub is_shallow : ℕ → List Graph → Config → List EdgeAt → Bool
is_shallow depth files c [] = nat_le (length c.stacks.symbols) depth
is_shallow depth files c (e ∷ es) =
    nat_le (length c.stacks.symbols) depth
    && option_map_or (λ (next : Config). is_shallow depth files next es) (step files c e) true

-- whether the run is within the bounds
abbrev pub is_bounded : Bounds → List Graph → Config → List EdgeAt → Bool
is_bounded bounds files c es = nat_le (length es) bounds.edges && is_shallow bounds.depth files c es

-- whether no symbols are left
abbrev pub is_empty : {X : Type 0} → List X → Bool
is_empty [] = true
is_empty (x ∷ xs) = false

-- whether the configuration is a result: at a definition, with no symbols left
abbrev pub is_at_definition : List Graph → Config → Bool
is_at_definition files at = is_definition_spot files at.spot && is_empty at.stacks.symbols

-- whether a run, straight by now, is complete: it isn't empty and ends as a result
abbrev pub completes : List Graph → Config → List EdgeAt → Bool
completes files c es =
    not (is_empty es) && option_map_or (is_at_definition files) (run files c es) false

-- whether a run, straight by now, is counted: it ends with a cut edge or is complete
abbrev pub lands : List Graph → Config → List EdgeAt → Bool
lands files c es = ends_cut files es || completes files c es

-- how long a run can get that is gone on with: a bounded one, and then at most each node of a file once
abbrev pub longest : Bounds → ℕ
longest bounds = bounds.edges + max_nodes + 1

-- whether the run ends where the search may go on: at one of the live spots
abbrev pub ends_live : (Spot → Bool) → List Graph → Config → List EdgeAt → Bool
ends_live live files c es = option_map_or (λ (at : Config). live at.spot) (run files c es) false

-- whether the search goes on from the run: it is short enough, and bounded unless it stands between cuts
abbrev pub goes_on : (Spot → Bool) → Bounds → List Graph → Config → List EdgeAt → Bool
goes_on live bounds files c es =
    nat_lt (length es) (longest bounds) && (not (ends_cut files es) || is_bounded bounds files c es)
    && ends_live live files c es

-- the runs to go on with, the last first
abbrev pub next_runs : (Spot → Bool) → Bounds → List Graph → Config → List EdgeAt
    → List (List EdgeAt)
next_runs live bounds files c es =
    if goes_on live bounds files c es then reverse (longer_runs files c es) else []

-- the run, and the runs met from it on in at most so many edges more
abbrev pub meets : ℕ → (Spot → Bool) → Bounds → List Graph → Config → List EdgeAt
    → List (List EdgeAt)
meets zero live bounds files c es = es ∷ []
meets (suc n) live bounds files c es =
    es ∷ flat_map (λ (next : List EdgeAt). meets n live bounds files c next)
    (next_runs live bounds files c es)

-- the runs that the search meets from here
abbrev pub met_runs : (Spot → Bool) → Bounds → List Graph → Config → List (List EdgeAt)
met_runs live bounds files c = meets (longest bounds) live bounds files c []

-- nothing that lands is missed by going on from live spots only
abbrev pub IsLive : (Spot → Bool) → List Graph → Type 0
IsLive live files =
    (at : Config) (es : List EdgeAt) → es ≢ [] → IsSome (run files at es)
    → IsTrue (lands files at es)
    → live at.spot ≡ true

-- whether the run is counted and bounded; counted and not bounded; complete and bounded
abbrev pub is_bounded_counted : Bounds → List Graph → Config → List EdgeAt → Bool
is_bounded_counted bounds files c es = lands files c es && is_bounded bounds files c es

abbrev pub is_past_bounds : Bounds → List Graph → Config → List EdgeAt → Bool
is_past_bounds bounds files c es = lands files c es && not (is_bounded bounds files c es)

abbrev pub is_bounded_complete : Bounds → List Graph → Config → List EdgeAt → Bool
is_bounded_complete bounds files c es = completes files c es && is_bounded bounds files c es
