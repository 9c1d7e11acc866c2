-- What a stitching answers: the bounded complete runs of a reference.
use Rattle.std.specs.Prelude.{◌≡◌, ◌↔◌, List, map, All, Contains, MatchOption}
use Rattle.graph_nodes.specs.Graph.{Graph}
use Rattle.partial_path.specs.declared.config.Config.{Config}
use Rattle.partial_path.specs.declared.config.EdgeAt.{EdgeAt}
use Rattle.partial_path.specs.declared.config.Spot.TheVariants.{At}
use Rattle.partial_path.specs.declared.bounds.Bounds.{Bounds}
use Rattle.partial_path.specs.Runs.{run, IsApart}
use Rattle.partial_path.specs.Counted.{IsBoundedComplete}
use Rattle.stitcher.specs.Found.{EdgePath}

-- the edges of the runs
abbrev pub kept_edges : List EdgePath → List (List EdgeAt)
kept_edges paths = map (λ (p : EdgePath). p.edges) paths

-- the run of its edges leads to its end
abbrev pub EndsThere : List Graph → Config → EdgePath → Type 0
EndsThere files c p = MatchOption (run files c p.edges) ⊥ (λ (end : Config). end.spot ≡ At p.end)

-- they are the bounded complete runs from there, each once, and each with its end
pub record AreCompleteRuns (bounds : Bounds) (files : List Graph) (c : Config) (paths : List EdgePath) : Type 0 where
  pub once : IsApart (kept_edges paths)
  pub exact : (es : List EdgeAt) → Contains (kept_edges paths) es ↔ IsBoundedComplete bounds files c es
  pub ends : All (EndsThere files c) paths
