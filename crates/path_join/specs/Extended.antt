-- What a path is with an edge of its file more: its join with the edge's unit.
use Rattle.std.specs.Prelude.{◌≡◌, ℕ, Bool, if◌then◌else◌, Option, Some, None, IfSome}
use Rattle.graph_nodes.specs.Graph.{Graph}
use Rattle.partial_path.specs.declared.path.PathParts.{PathParts}
use Rattle.partial_path.specs.Rules.{Rule, rule_of}
use Rattle.path_join.specs.Joins.{IsJoin, NonePasses}
use Rattle.path_join.specs.Units.{IsUnit}

-- the join of the path with a unit of the file's edge, or nothing, where no configuration passes both
pub record IsExtended (g : Graph) (p : Rule) (e : ℕ) (found : Option Rule) : Type 0 where
  pub step : Rule
  pub unit : IsUnit g e step
  pub joined : IfSome found (IsJoin p step)
  pub none : found ≡ None → NonePasses p step

-- the rule of a path that is taken apart
abbrev pub rule_apart : PathParts → Rule
rule_apart parts = rule_of parts.start parts.end parts.pre parts.post parts.peak parts.edges.items

-- that rule, where there is one
abbrev pub rule_if : Bool → PathParts → Option Rule
rule_if there parts = if there then Some (rule_apart parts) else None
