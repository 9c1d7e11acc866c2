-- What the lists of stored paths that are met from a reference tell of its runs.
use Rattle.std.specs.Prelude.{◌≡◌, ◌<◌, ◌↔◌, List, map, length, Some, All, Contains, IsTrue}
use Rattle.partial_path.specs.declared.config.EdgeAt.{EdgeAt}
use Rattle.partial_path.specs.Limits.{max_runs}
use Rattle.partial_path.specs.Step.{start}
use Rattle.partial_path.specs.Runs.{IsApart}
use Rattle.partial_path.specs.Counted.{IsBoundedComplete, IsCrowded, HasLimit}
use Rattle.partial_path.specs.Sources.{IsSourceFile, graphs_of}
use Rattle.partial_path.specs.Cutting.{path_edges}
use Rattle.partial_path.specs.Laws.{AppliedRulesAreOffered, BeginningsAreCut, CountedRunsAreCut, CutsAreUnique, PathsAreRuns, JoinedBounds, LandingsTell}
use Rattle.stitcher.specs.Joins.{Asked, Joined, complete_met, counted_met, meets_past}

-- the edges of the joined paths
abbrev pub joined_edges : Joined → List EdgeAt
joined_edges j = path_edges j.paths

-- the met ones that are complete and bounded have the edges of exactly the bounded complete runs, each once;
-- the start is crowded exactly where too many of the met ones are counted and bounded; some counted run isn't
-- bounded exactly where a met one is so
pub record IsToldByMet (q : Asked) : Type 0 where
  pub once : IsApart (map joined_edges (complete_met q))
  pub complete : (es : List EdgeAt) → Contains (map joined_edges (complete_met q)) es ↔ IsBoundedComplete q.bounds (graphs_of q.files) q.start es
  pub crowded : (max_runs < length (counted_met q)) ↔ IsCrowded q.bounds (graphs_of q.files) q.start
  pub limit : IsTrue (meets_past q) ↔ HasLimit q.bounds (graphs_of q.files) q.start

-- what is met from a reference of a source tells of its runs
abbrev pub MetPathsTell : Type 0
MetPathsTell = (q : Asked) → All IsSourceFile q.files → start (graphs_of q.files) q.node ≡ Some q.start → IsToldByMet q

-- the laws of cut runs that this rests on
pub record CutLaws : Type 0 where
  pub offered : AppliedRulesAreOffered
  pub beginnings : BeginningsAreCut
  pub cut : CountedRunsAreCut
  pub unique : CutsAreUnique
  pub runs : PathsAreRuns
  pub bounds : JoinedBounds
  pub tell : LandingsTell
