-- Tests whether two configurations are equal. No definition of a run cites them; code compares by them.
use Rattle.std.specs.Prelude.{Bool, true, false, ◌&&◌}
use Rattle.stacks_vars.specs.Same.{node_eq, stacks_eq}
use Rattle.partial_path.specs.declared.config.Spot.{Spot}
use Rattle.partial_path.specs.declared.config.Spot.TheVariants.{Root, At}
use Rattle.partial_path.specs.declared.config.Config.{Config}

-- whether two spots are the same
abbrev pub spot_eq : Spot → Spot → Bool
spot_eq Root Root = true
spot_eq Root (At b) = false
spot_eq (At a) Root = false
spot_eq (At a) (At b) = node_eq a b

-- whether two configurations are the same
abbrev pub config_eq : Config → Config → Bool
config_eq a b = spot_eq a.spot b.spot && stacks_eq a.stacks b.stacks
