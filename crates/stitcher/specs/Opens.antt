-- The joined paths that are still to be gone on from, as the program keeps them, and what it notes of one. No public
-- clause cites this.
use Rattle.std.specs.Prelude.{◌≡◌, ◌+◌, ◌++◌, List, [], ◌∷◌, map, length, take, Bool, ◌||◌, filter, ℕ, IsPermutation, All, IsTrue, ◌↔◌, true, ◌≤◌, ◌<◌, if◌then◌else◌}
use Rattle.std.specs.List.{AllByRecursion, list_any, flat_map}
use Rattle.partial_path.specs.Rules.{Rule}
use Rattle.partial_path.specs.declared.config.EdgeAt.{EdgeAt}
use Rattle.partial_path.specs.declared.config.Spot.{Spot}
use Rattle.partial_path.specs.declared.config.Spot.TheVariants.{At}
use Rattle.partial_path.specs.Limits.{max_runs}
use Rattle.partial_path.specs.Cutting.{edge_count}
use Rattle.partial_path.specs.Counted.{IsCrowded, HasLimit}
use Rattle.partial_path.specs.Laws.{IsSpotOf}
use Rattle.partial_path.specs.Sources.{graphs_of}
use Rattle.stitcher.specs.Answers.{AreCompleteRuns}
use Rattle.stitcher.specs.Found.{EdgePath}
use Rattle.stitcher.specs.declared.note.Run.{Run}
use Rattle.stitcher.specs.declared.trail.Open.{Open}
use Rattle.stitcher.specs.declared.tally.Progress.{Progress}
use Rattle.stitcher.specs.declared.tally.Tally.{Tally}
use Rattle.stitcher.specs.declared.trail.Level.{Level}
use Rattle.stitcher.specs.Joins.{Asked, Joined, joined, with_path, is_at_cut, is_bounded, is_bounded_complete, is_bounded_counted, is_past_bounds, joined_by, goes_on, offered_to}
use Rattle.stitcher.specs.Laws.{joined_edges}
use Rattle.stitcher.specs.Trail.{Moves, paths_of, path_of, IsHere}

-- the joined paths of an open one: those of the trail up to its depth, and its last one
abbrev pub opened : List Level → Open → Joined
opened trail o = joined (with_path (paths_of (take o.depth trail)) (path_of o.level)) o.level.at

-- the joined paths of each open one
abbrev pub opens_of : List Level → List Open → List Joined
opens_of trail opens = map (opened trail) opens

-- the joined paths of a run that is longer than the trail by its last path
abbrev pub run_of : List Level → Run → Joined
run_of trail run = joined (with_path (paths_of trail) (path_of run.level)) run.level.at

-- that run as an open one
abbrev pub opened_at : List Level → Run → Open
opened_at trail run = record { depth = length trail; edges = run.edges; level = run.level }

-- it was joined to the trail as it is told: whether it is bounded and ends at a cut, how many edges it has, and that it
-- leads on from a cut
pub record IsLanded (q : Asked) (trail : List Level) (run : Run) : Type 0 where
  pub spot : IsSpotOf (graphs_of q.files) run.level.at.spot
  pub bounded : run.bounded ≡ is_bounded q (with_path (paths_of trail) (path_of run.level))
  pub cut : run.cut ≡ is_at_cut q run.level.at
  pub here : IsTrue (is_at_cut q run.level.at) → IsHere q (trail ++ run.level ∷ []) run.level.at
  pub edges : run.edges ≡ edge_count (with_path (paths_of trail) (path_of run.level))
  pub moves : All (λ (l : Level). Moves l.file l.path) trail
  pub level : Moves run.level.file run.level.path

-- the one, where the test passes
abbrev pub those : {X : Type 0} → Bool → X → List X
those passes x = if passes then x ∷ [] else []

-- the edges of a run that is kept, and where it ends
abbrev pub kept_run : EdgePath → List EdgeAt × Spot
kept_run p = (p.edges, At p.end)

-- the same of each run that is kept
abbrev pub kept_runs : List EdgePath → List (List EdgeAt × Spot)
kept_runs paths = map kept_run paths

-- the edges of the joined paths, and where they end
abbrev pub joined_run : Joined → List EdgeAt × Spot
joined_run j = (joined_edges j, j.at.spot)

-- the joined paths were noted
pub record IsNoted (q : Asked) (xs : List Joined) (old new : Tally) : Type 0 where
  pub counted : new.counted ≡ old.counted + length (filter (is_bounded_counted q) xs)
  pub complete : kept_runs new.complete.items ≡ kept_runs old.complete.items ++ map joined_run (filter (is_bounded_complete q) xs)
  pub limit : new.limit ≡ (old.limit || list_any (is_past_bounds q) xs)

-- the joined paths were noted, and opened where more paths are joined to them
pub record AreTaken (q : Asked) (trail : List Level) (xs : List Joined) (old new : Progress) : Type 0 where
  pub noted : IsNoted q xs old.tally new.tally
  pub opens : opens_of trail new.work.items ≡ opens_of trail old.work.items ++ filter (goes_on q) xs

-- all that are offered there were joined, in some order
abbrev pub IsExtended : Asked → List Level → Joined → Progress → Progress → Type 0
IsExtended q trail from old new =
    (paths : List (ℕ × Rule)) × IsPermutation (offered_to q from) paths × AreTaken q trail (flat_map (joined_by q from) paths) old new

-- the first of the offered paths, in some order, are already too many with those that were counted before
pub record IsOverfull (q : Asked) (from : Joined) (counted : ℕ) : Type 0 where
  pub part : List (ℕ × Rule)
  pub rest : List (ℕ × Rule)
  pub offered : IsPermutation (offered_to q from) (part ++ rest)
  pub many : max_runs < counted + length (filter (is_bounded_counted q) (flat_map (joined_by q from) part))

-- the levels of an open one: those of the trail up to its depth, and its last one
abbrev pub levels_of : List Level → Open → List Level
levels_of trail o = take o.depth trail ++ o.level ∷ []

-- levels that lead from the reference to the last one, within the bounds, and on
pub record AreOpen (q : Asked) (levels : List Level) (o : Open) : Type 0 where
  pub here : IsHere q levels o.level.at
  pub goes : goes_on q (joined (paths_of levels) o.level.at) ≡ true
  pub edges : o.edges ≡ edge_count (paths_of levels)
  pub moves : All (λ (l : Level). Moves l.file l.path) levels

-- an open one of the trail, and one that has one level more than the whole trail
pub record IsOpen (q : Asked) (trail : List Level) (o : Open) : Type 0 where
  pub depth : o.depth ≤ length trail
  pub levels : AreOpen q (levels_of trail o) o

pub record IsLast (q : Asked) (trail : List Level) (o : Open) : Type 0 where
  pub depth : o.depth ≡ length trail
  pub levels : AreOpen q (trail ++ o.level ∷ []) o

-- such ones were added to the open ones
abbrev pub AreAdded : Asked → List Level → Progress → Progress → Type 0
AreAdded q trail old new = (more : List Open) × (new.work.items ≡ old.work.items ++ more) × AllByRecursion (IsLast q trail) more

-- what was noted in all tells of the runs of the reference
pub record IsEnded (q : Asked) (t : Tally) : Type 0 where
  pub runs : AreCompleteRuns q.bounds (graphs_of q.files) q.start t.complete.items
  pub limit : IsTrue t.limit ↔ HasLimit q.bounds (graphs_of q.files) q.start
  pub not_crowded : ¬ IsCrowded q.bounds (graphs_of q.files) q.start
