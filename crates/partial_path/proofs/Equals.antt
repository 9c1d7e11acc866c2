-- The tests whether two spots and two configurations are equal decide it.
use Rattle.std.proofs.Common.{◌≡◌, true, refl, sym, ap, Decides}
use Rattle.std.proofs.lemmas.Bool.{false≢true}
use Rattle.std.proofs.lemmas.Bool.Decides.{Decides-and, Decides-like}
use Rattle.stacks_vars.specs.declared.scopes.NodeAt.{NodeAt}
use Rattle.stacks_vars.proofs.SameLaws.{node_eq-Decides, stacks_eq-Decides}
use Rattle.stacks_vars.specs.Same.{node_eq}
use Rattle.partial_path.specs.declared.config.Spot.{Spot}
use Rattle.partial_path.specs.declared.config.Spot.TheVariants.{Root, At}
use Rattle.partial_path.specs.declared.config.Config.{Config}
use Rattle.partial_path.specs.Same.{spot_eq, config_eq}

root_is_no_node : (a : NodeAt) → Root ≡ At a → ⊥
root_is_no_node a e = cc

-- spots at nodes that are the same are spots at one node
pub same_node : (a b : NodeAt) → At a ≡ At b → a ≡ b
same_node a b e = cc

pub spot_eq-Decides : (a b : Spot) → Decides (spot_eq a b) (a ≡ b)
spot_eq-Decides Root Root = (λ _. refl, λ _. refl)
spot_eq-Decides Root (At b) = (λ t. absurd (false≢true t), λ e. absurd (root_is_no_node b e))
spot_eq-Decides (At a) Root = (λ t. absurd (false≢true t), λ e. absurd (root_is_no_node a (sym e)))
spot_eq-Decides (At a) (At b) = Decides-like (node_eq a b) (λ e. ap At e) (same_node a b) (node_eq-Decides a b)

pub spot_eq-refl : (a : Spot) → spot_eq a a ≡ true
spot_eq-refl a = (spot_eq-Decides a a).1 refl

pub config_eq-Decides : (a b : Config) → Decides (config_eq a b) (a ≡ b)
config_eq-Decides a b =
    Decides-like (config_eq a b) (λ h. λ i. record { spot = h.0 i; stacks = h.1 i }) (λ e. (ap (λ x. x.spot) e, ap (λ x. x.stacks) e))
    (Decides-and _ _ (spot_eq-Decides a.spot b.spot) (stacks_eq-Decides a.stacks b.stacks))
