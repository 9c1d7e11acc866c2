-- What the end of a stored path tells of where the path lands, before it is applied. No public clause cites this.
use Rattle.std.specs.Prelude.{List, length, Bool, true, ◌&&◌, ◌||◌, nat_eq, Option, Some, None, ⊤}
use Rattle.std.specs.Option.{unwrap_or}
use Rattle.graph_nodes.specs.Graph.{Graph}
use Rattle.partial_path.specs.declared.config.Config.{Config}
use Rattle.partial_path.specs.declared.rule.End.{End}
use Rattle.partial_path.specs.declared.rule.End.TheVariants.{At, ByStack}
use Rattle.partial_path.specs.Rules.{Rule}
use Rattle.partial_path.specs.Walks.{is_cut_spot_of}
use Rattle.partial_path.specs.Laws.{IsSpotOf}
use Rattle.stitcher.specs.Joins.{is_none}

-- the spot of the end is one of the files; where the stack tells the spot, none is named
abbrev pub IsEndOf : List Graph → End → Type 0
IsEndOf files (At spot) = IsSpotOf files spot
IsEndOf files ByStack = ⊤

-- whether paths are cut at the end; None where the stack tells it
abbrev pub end_cut : List Graph → End → Option Bool
end_cut files (At spot) = Some (is_cut_spot_of files spot)
end_cut files ByStack = None

-- whether no symbols are left where the rule lands from a configuration that meets it
abbrev pub leaves_none : Rule → Config → Bool
leaves_none rule at = is_none rule.post.symbols && nat_eq (length rule.pre.symbols) (length at.stacks.symbols)

-- whether a run can be told of where the rule lands: at a cut, or with no symbols left
abbrev pub may_land : Option Bool → Rule → Config → Bool
may_land cut rule at = unwrap_or cut true || leaves_none rule at
