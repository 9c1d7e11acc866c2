-- Which runs are results, which are counted, and when a start has too many or is cut short.
use Rattle.std.specs.Prelude.{◌≢◌, ◌<◌, List, [], length, IsSome, IsSomeAnd, ◌⊎◌}
use Rattle.std.specs.List.{AllByRecursion}
use Rattle.graph_nodes.specs.Graph.{Graph}
use Rattle.partial_path.specs.declared.config.Config.{Config}
use Rattle.partial_path.specs.declared.config.EdgeAt.{EdgeAt}
use Rattle.partial_path.specs.declared.bounds.Bounds.{Bounds}
use Rattle.partial_path.specs.Limits.{max_runs}
use Rattle.partial_path.specs.Runs.{run, IsStraight, IsClosed, IsBounded, IsAtDefinition, IsApart}

-- complete: a nonempty straight run that ends at a definition with no symbols left
pub record IsComplete (files : List Graph) (c : Config) (es : List EdgeAt) : Type 0 where
  pub nonempty : es ≢ []
  pub straight : IsStraight files c es
  pub ends : IsSomeAnd (run files c es) (IsAtDefinition files)

-- counted: a nonempty straight run that is closed or complete
pub record IsCounted (files : List Graph) (c : Config) (es : List EdgeAt) : Type 0 where
  pub nonempty : es ≢ []
  pub runs : IsSome (run files c es)
  pub straight : IsStraight files c es
  pub lands : IsClosed files es ⊎ IsComplete files c es

-- a counted run within the bounds
pub record IsBoundedCounted (bounds : Bounds) (files : List Graph) (c : Config) (es : List EdgeAt) : Type 0 where
  pub counted : IsCounted files c es
  pub bounded : IsBounded bounds files c es

-- crowded: more than `max_runs` bounded counted runs begin here
abbrev pub IsCrowded : Bounds → List Graph → Config → Type 0
IsCrowded bounds files c =
    (runs : List (List EdgeAt)) × IsApart runs × AllByRecursion (IsBoundedCounted bounds files c) runs × (max_runs < length runs)

-- some counted run from here, of any length and depth, isn't bounded
abbrev pub HasLimit : Bounds → List Graph → Config → Type 0
HasLimit bounds files c = (es : List EdgeAt) × IsCounted files c es × ¬ IsBounded bounds files c es

-- a complete run within the bounds
pub record IsBoundedComplete (bounds : Bounds) (files : List Graph) (c : Config) (es : List EdgeAt) : Type 0 where
  pub complete : IsComplete files c es
  pub bounded : IsBounded bounds files c es
