-- Back lists as stored paths that lead to the definition. No public clause cites this.
use Rattle.std.specs.Prelude.{◌≡◌, ◌≢◌, ◌≤◌, ℕ, List, [], length}
use Rattle.stacks_vars.specs.declared.scopes.NodeAt.{NodeAt}
use Rattle.stacks_vars.specs.declared.stacks.Stacks.{Stacks}
use Rattle.partial_path.specs.declared.config.Config.{Config}
use Rattle.partial_path.specs.declared.config.Spot.TheVariants.{At}
use Rattle.partial_path.specs.declared.rule.Start.{Start}
use Rattle.partial_path.specs.Rules.{Rule}
use Rattle.partial_path.specs.PathSets.{FileRules}
use Rattle.partial_path.specs.Sources.{graphs_of}
use Rattle.partial_path.specs.Cutting.{path_edges, PathsLead, heights}
use Rattle.back_stitch.specs.Cuts.{HoldExported}
use Rattle.back_stitch.specs.Lists.{most_edges, most_depth, at_start}

-- stored paths that are a back list of the node, from this start
pub record IsBackPath (files : List FileRules) (d : NodeAt) (start : Start) (paths : List (ℕ × Rule)) : Type 0 where
  pub nonempty : paths ≢ []
  pub short : length (path_edges paths) ≤ most_edges
  pub stacks : Stacks
  pub exported : HoldExported (graphs_of files) stacks
  pub end : Config
  pub leads : PathsLead files start (at_start start stacks) paths end
  pub there : end.spot ≡ At d
  pub resolved : end.stacks.symbols ≡ []
  pub shallow : heights (at_start start stacks) paths ≤ most_depth
