-- Which lists of stored paths are met from a reference: each is joined from a shorter one that is bounded and
-- ends at a cut, and a path that is offered where that one lands. No public clause cites the order.
use Rattle.std.specs.Prelude.{◌≡◌, All, Some, ℕ, zero, suc, ◌+◌, ◌-◌, List, [], ◌∷◌, ◌++◌, length, Bool, true, false, not, ◌&&◌, ◌||◌, nat_le, if◌then◌else◌}
use Rattle.std.specs.Option.{option_map_or}
use Rattle.std.specs.List.{list_any, filter, flat_map}
use Rattle.stacks_vars.specs.declared.scopes.NodeAt.{NodeAt}
use Rattle.stacks_vars.specs.Enter.{no_stacks}
use Rattle.partial_path.specs.declared.config.Config.{Config}
use Rattle.partial_path.specs.declared.bounds.Bounds.{Bounds}
use Rattle.partial_path.specs.declared.rule.Start.{Start}
use Rattle.partial_path.specs.declared.rule.Start.TheVariants.{Before, After}
use Rattle.partial_path.specs.Spots.{at_node, is_definition_spot}
use Rattle.partial_path.specs.Same.{config_eq}
use Rattle.partial_path.specs.Rules.{Rule}
use Rattle.partial_path.specs.Apply.{apply}
use Rattle.partial_path.specs.Moved.{moved}
use Rattle.partial_path.specs.Walks.{is_cut_spot_of}
use Rattle.partial_path.specs.PathSets.{FileRules}
use Rattle.partial_path.specs.Sources.{IsSourceFile, graphs_of, rules_offered}
use Rattle.partial_path.specs.Step.{start}
use Rattle.partial_path.specs.Cutting.{edge_count, heights, landings, at_cuts}

-- what is asked: over these files, from this reference, whose runs start there, within these bounds
pub record Asked : Type 0 where
  pub files : List FileRules
  pub node : NodeAt
  pub start : Config
  pub bounds : Bounds

-- what is asked of these files: their runs start where the reference is entered
abbrev pub asked : List FileRules → NodeAt → Bounds → Asked
asked files node bounds =
    record { files = files; node = node; start = option_map_or (λ (c : Config). c) (start (graphs_of files) node) (at_node node no_stacks); bounds = bounds }

-- the files are those of a source, and the reference can be entered
pub record IsAsked (q : Asked) : Type 0 where
  pub sources : All IsSourceFile q.files
  pub begins : start (graphs_of q.files) q.node ≡ Some q.start

-- stored paths that were joined from the reference on, and where the last of them lands
pub record Joined : Type 0 where
  pub paths : List (ℕ × Rule)
  pub at : Config

-- these paths, the last of which lands there
abbrev pub joined : List (ℕ × Rule) → Config → Joined
joined paths at = record { paths = paths; at = at }

-- the paths with one more
abbrev pub with_path : List (ℕ × Rule) → ℕ × Rule → List (ℕ × Rule)
with_path paths p = paths ++ p ∷ []

-- the reference, not entered yet, and no paths from it
abbrev pub origin : Asked → Config
origin q = at_node q.node no_stacks

abbrev pub none_joined : Asked → Joined
none_joined q = joined [] (origin q)

-- whether there are none
abbrev pub is_none : {X : Type 0} → List X → Bool
is_none [] = true
is_none (x ∷ xs) = false

-- where the path after these begins, which begin at that start themselves and land there
abbrev pub start_behind : Start → List (ℕ × Rule) → Config → Start
start_behind start [] at = start
start_behind start (p ∷ paths) at = After at.spot

-- where a path after the joined ones begins
abbrev pub next_start : Asked → Joined → Start
next_start q j = start_behind (Before q.node) j.paths j.at

-- whether the configuration stands at a cut; at a definition, with no symbols left
abbrev pub is_at_cut : Asked → Config → Bool
is_at_cut q at = is_cut_spot_of (graphs_of q.files) at.spot

abbrev pub is_at_result : Asked → Config → Bool
is_at_result q at = is_definition_spot (graphs_of q.files) at.spot && is_none at.stacks.symbols

-- the start, and where the paths land at cuts
abbrev pub met_at_cuts : Asked → List (ℕ × Rule) → List Config
met_at_cuts q paths = q.start ∷ at_cuts (graphs_of q.files) (landings (origin q) paths)

-- whether the paths' run stays straight with a path that lands there
abbrev pub keeps_straight : Asked → List (ℕ × Rule) → Config → Bool
keeps_straight q paths next = not (is_at_cut q next && list_any (config_eq next) (met_at_cuts q paths))

-- what is joined by a path that lands there; nothing where the run wouldn't be straight
abbrev pub landed : Asked → Joined → ℕ × Rule → Config → List Joined
landed q j p next = if keeps_straight q j.paths next then joined (with_path j.paths p) next ∷ [] else []

-- what is joined by the path; nothing where it doesn't apply
abbrev pub joined_by : Asked → Joined → ℕ × Rule → List Joined
joined_by q j p = option_map_or (landed q j p) (apply (moved p.0 p.1) j.at) []

-- whether the paths are within the bounds: they have few enough edges together, and none is too high
abbrev pub is_bounded : Asked → List (ℕ × Rule) → Bool
is_bounded q paths = nat_le (edge_count paths) q.bounds.edges && nat_le (heights (origin q) paths) q.bounds.depth

-- whether more paths are joined: from the reference, and from a cut within the bounds
abbrev pub goes_on : Asked → Joined → Bool
goes_on q j = is_none j.paths || (is_at_cut q j.at && is_bounded q j.paths)

-- the paths that are offered where these land
abbrev pub offered_to : Asked → Joined → List (ℕ × Rule)
offered_to q j = rules_offered q.files (next_start q j) j.at.stacks.symbols

-- what has one path more
abbrev pub longer : Asked → Joined → List Joined
longer q j = if goes_on q j then flat_map (joined_by q j) (offered_to q j) else []

-- what is met from there with at most so many paths more
abbrev pub meets : ℕ → Asked → Joined → List Joined
meets zero q j = []
meets (suc n) q j = flat_map (λ (next : Joined). next ∷ meets n q next) (longer q j)

-- what is met from the reference: each path has an edge, so one path more than edges are allowed
abbrev pub met : Asked → List Joined
met q = meets (q.bounds.edges + 1) q (none_joined q)

-- what is met behind these: no more paths in all than edges are allowed, and one
abbrev pub ahead : Asked → Joined → List Joined
ahead q j = meets ((q.bounds.edges + 1) - length j.paths) q j

-- whether the run is counted, as it is straight: it ends at a cut or at a result
abbrev pub lands : Asked → Joined → Bool
lands q j = is_at_cut q j.at || is_at_result q j.at

-- whether it is complete and bounded; counted and bounded; counted and not bounded
abbrev pub is_bounded_complete : Asked → Joined → Bool
is_bounded_complete q j = is_at_result q j.at && is_bounded q j.paths

abbrev pub is_bounded_counted : Asked → Joined → Bool
is_bounded_counted q j = lands q j && is_bounded q j.paths

abbrev pub is_past_bounds : Asked → Joined → Bool
is_past_bounds q j = lands q j && not (is_bounded q j.paths)

-- those that are met
abbrev pub complete_met : Asked → List Joined
complete_met q = filter (is_bounded_complete q) (met q)

-- those that are met, and are counted and bounded
abbrev pub counted_met : Asked → List Joined
counted_met q = filter (is_bounded_counted q) (met q)

-- whether one is met that is counted and not bounded
abbrev pub meets_past : Asked → Bool
meets_past q = list_any (is_past_bounds q) (met q)
