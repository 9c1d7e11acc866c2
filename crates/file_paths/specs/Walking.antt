-- How all walks of a file are found: some are noted, some are open, and each other one goes on from a
-- begun one. No public clause cites this.
use Rattle.std.specs.Prelude.{◌≡◌, List, [], ◌∷◌, ◌++◌, Bool, false, Contains, ◌⊎◌}
use Rattle.std.specs.List.{AllByRecursion}
use Rattle.graph_nodes.specs.Graph.{Graph}
use Rattle.partial_path.specs.declared.config.EdgeAt.{EdgeAt}
use Rattle.partial_path.specs.declared.rule.Start.{Start}
use Rattle.partial_path.specs.Runs.{IsApart}
use Rattle.partial_path.specs.Step.{is_cut_edge}
use Rattle.partial_path.specs.Walks.{IsWalk, Walk, walk_of}

-- whether the last edge is a cut edge
abbrev pub ends_cut : List Graph → List EdgeAt → Bool
ends_cut files [] = false
ends_cut files (e ∷ []) = is_cut_edge files e
ends_cut files (e ∷ next ∷ es) = ends_cut files (next ∷ es)

-- the walk with one edge more
abbrev pub one_more : Walk → EdgeAt → Walk
one_more w e = walk_of w.start (w.edges ++ e ∷ [])

-- a start without an edge
abbrev pub no_edges : Start → Walk
no_edges start = walk_of start []

-- the one walk goes on from the other, or is it: it has the same start and begins with its edges
abbrev pub GoesOn : Walk → Walk → Type 0
GoesOn w from = (w.start ≡ from.start) × ((more : List EdgeAt) × (w.edges ≡ from.edges ++ more))

-- walks of one edge more than this one: all that there are, each once
pub record AreLonger (g : Graph) (w : Walk) (longer : List Walk) : Type 0 where
  pub each : AllByRecursion (λ (l : Walk). ((e : EdgeAt) × (l ≡ one_more w e)) × IsWalk g l.start l.edges) longer
  pub once : IsApart longer
  pub all : (e : EdgeAt) → IsWalk g w.start (w.edges ++ e ∷ []) → Contains longer (one_more w e)

-- the walks of one edge from these starts: all that there are, each once
pub record AreFirst (g : Graph) (starts : List Start) (first : List Walk) : Type 0 where
  pub each : AllByRecursion (λ (l : Walk). ((e : EdgeAt) × (l.edges ≡ e ∷ [])) × Contains starts l.start × IsWalk g l.start l.edges) first
  pub once : IsApart first
  pub all : (start : Start) (e : EdgeAt) → Contains starts start → IsWalk g start (e ∷ []) → Contains first (walk_of start (e ∷ []))

-- none of these goes on from another
abbrev pub ArePrefixFree : List Walk → Type 0
ArePrefixFree [] = Unit {0}
ArePrefixFree (w ∷ ws) = AllByRecursion (λ (o : Walk). ¬ GoesOn w o × ¬ GoesOn o w) ws × ArePrefixFree ws

-- some walks are noted and some begun: all are walks, each once, none noted goes on from a begun one, no
-- begun one goes on from another, and each walk is noted or goes on from a begun one
pub record IsUnderWay (g : Graph) (noted : List Walk) (begun : List Walk) : Type 0 where
  pub were : AllByRecursion (λ (w : Walk). IsWalk g w.start w.edges) noted
  pub are : AllByRecursion (λ (w : Walk). IsWalk g w.start w.edges) begun
  pub once : IsApart noted
  pub past : AllByRecursion (λ (w : Walk). AllByRecursion (λ (o : Walk). ¬ GoesOn w o) begun) noted
  pub apart : ArePrefixFree begun
  pub reached : (w : Walk) → IsWalk g w.start w.edges → Contains noted w ⊎ ((o : Walk) × Contains begun o × GoesOn w o)
