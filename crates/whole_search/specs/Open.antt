-- What the search keeps of a run that it has met. No public clause cites this.
use Rattle.std.specs.Prelude.{◌≡◌, ◌+◌, List, [], ◌∷◌, ◌++◌, map, length, Bool, not, ◌&&◌, ◌||◌, nat_lt, Some, if◌then◌else◌}
use Rattle.std.specs.List.{filter}
use Rattle.graph_nodes.specs.Graph.{Graph}
use Rattle.partial_path.specs.declared.config.Spot.{Spot}
use Rattle.partial_path.specs.declared.config.Config.{Config}
use Rattle.partial_path.specs.declared.config.EdgeAt.{EdgeAt}
use Rattle.partial_path.specs.declared.bounds.Bounds.{Bounds}
use Rattle.partial_path.specs.Runs.{run, after_cuts}
use Rattle.whole_search.specs.declared.open.Open.{Open}
use Rattle.whole_search.specs.declared.tally.Tally.{Tally}
use Rattle.whole_search.specs.Walk.{can_follow, with_edge, ends_cut, is_bounded, is_empty, is_at_definition, longest}

-- the open run stands where its edges lead from here, and is marked as bounded exactly where it is
pub record IsOpen (bounds : Bounds) (files : List Graph) (c : Config) (o : Open) : Type 0 where
  pub stands : run files c o.run ≡ Some o.at
  pub marked : o.bounded ≡ is_bounded bounds files c o.run

-- the edges of the open runs
abbrev pub runs_of : List Open → List (List EdgeAt)
runs_of opens = map (λ (o : Open). o.run) opens

-- the straight runs that are longer by one of these edges
abbrev pub longer_by : List Graph → Config → List EdgeAt → Config → List EdgeAt → List (List EdgeAt)
longer_by files c es at edges =
    map (with_edge es) (filter (can_follow files (c ∷ after_cuts files c es) at) edges)

-- whether the open run is complete; whether it is counted
abbrev pub open_completes : List Graph → Open → Bool
open_completes files o = not (is_empty o.run) && is_at_definition files o.at

abbrev pub open_lands : List Graph → Open → Bool
open_lands files o = ends_cut files o.run || open_completes files o

-- whether the search goes on from the open run, where these spots are live
abbrev pub open_goes_on : (Spot → Bool) → Bounds → List Graph → Open → Bool
open_goes_on live bounds files o =
    nat_lt (length o.run) (longest bounds) && (not (ends_cut files o.run) || o.bounded)
    && live o.at.spot

-- the run, where the test passes
abbrev pub those : Bool → List EdgeAt → List (List EdgeAt)
those passes es = if passes then es ∷ [] else []

-- the open run was noted
pub record IsNoted (files : List Graph) (o : Open) (old new : Tally) : Type 0 where
  pub counted : new.counted ≡ old.counted + length (those (open_lands files o && o.bounded) o.run)
  pub runs : new.runs.items ≡ old.runs.items ++ those (open_completes files o && o.bounded) o.run
  pub limit : new.limit ≡ (old.limit || (open_lands files o && not o.bounded))
