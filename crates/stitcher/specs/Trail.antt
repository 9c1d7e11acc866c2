-- The paths that are joined at the moment, as the program keeps them. No public clause cites this.
use Rattle.std.specs.Prelude.{◌≡◌, ◌≤◌, ℕ, List, map, All, IsTrue, true}
use Rattle.partial_path.specs.declared.config.Config.{Config}
use Rattle.partial_path.specs.FileNumbers.{FitsFile, EdgeIn}
use Rattle.partial_path.specs.Rules.{Rule}
use Rattle.partial_path.specs.Moved.{moved_start}
use Rattle.partial_path.specs.Keys.{key}
use Rattle.partial_path.specs.Sources.{stand_first}
use Rattle.partial_path.specs.Cutting.{IsStoredIn, LeadFrom, edge_count, heights, landings}
use Rattle.partial_path.specs.Laws.{AreStraightPaths}
use Rattle.stitcher.specs.declared.trail.Level.{Level}
use Rattle.stitcher.specs.declared.trail.Standing.{Standing}
use Rattle.stitcher.specs.Joins.{Asked, IsAsked, Joined, joined, origin, next_start, is_at_cut}

-- the edges can be moved by that number
abbrev pub Moves : ℕ → Rule → Type 0
Moves file rule = All (EdgeIn (FitsFile file)) rule.edges

-- the stored path that was joined, and where it landed
abbrev pub path_of : Level → ℕ × Rule
path_of l = (l.file, l.path)

abbrev pub landed_at : Level → Config
landed_at l = l.at

-- the stored paths that were joined, in their order
abbrev pub paths_of : List Level → List (ℕ × Rule)
paths_of levels = map path_of levels

-- the trail's paths lead there from the reference and are straight, and each landed at a cut, where its level says
pub record IsHere (q : Asked) (trail : List Level) (at : Config) : Type 0 where
  pub leads : LeadFrom q.files q.node (paths_of trail) at
  pub straight : AreStraightPaths q.files q.node q.start (paths_of trail)
  pub landed : landings (origin q) (paths_of trail) ≡ map landed_at trail
  pub cuts : All (λ (c : Config). IsTrue (is_at_cut q c)) (map landed_at trail)

-- the path is stored, begins where the trail landed, and asks first for the texts of the symbols there
pub record IsOffered (q : Asked) (trail : List Level) (at : Config) (p : ℕ × Rule) : Type 0 where
  pub stored : IsStoredIn q.files p
  pub begins : moved_start p.0 p.1.start ≡ next_start q (joined (paths_of trail) at)
  pub texts : stand_first (key p.1) at.stacks.symbols ≡ true

-- the joined paths of where a search stands
abbrev pub stood : Standing → Joined
stood s = joined (paths_of s.trail.now) s.at.now

-- a search stands where its trail landed, within the bounds, and goes on with the paths that begin there
pub record IsStanding (q : Asked) (s : Standing) : Type 0 where
  pub asked : IsAsked q
  pub here : IsHere q s.trail.now s.at.now
  pub begin : s.begin ≡ next_start q (stood s)
  pub edges : s.edges ≡ edge_count (paths_of s.trail.now)
  pub few_edges : s.edges ≤ q.bounds.edges
  pub low : heights (origin q) (paths_of s.trail.now) ≤ q.bounds.depth
  pub moves : All (λ (l : Level). Moves l.file l.path) s.trail.now
