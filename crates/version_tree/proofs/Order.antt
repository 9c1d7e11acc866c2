-- The order of paths is total, and paths that tie are the same.
use Rattle.std.proofs.Common.{◌≡◌, ℕ, List}
use Rattle.std.specs.Cmp.{IsTotalOrder}
use Rattle.std.specs.declared.cmp.Ordering.TheVariants.{Less, Equal, Greater}
use Rattle.std.proofs.lemmas.Cmp.{nat_list_cmp_total, tied_itself}
use Rattle.list_facts.proofs.Orders as orders
use Rattle.version_tree.specs.Contents.{path_cmp}

pub path_total : IsTotalOrder path_cmp
path_total = nat_list_cmp_total

pub tied : (p : List ℕ) → path_cmp p p ≡ Equal
tied p = tied_itself path_total p

pub less_flipped : (p q : List ℕ) → path_cmp p q ≡ Less → path_cmp q p ≡ Greater
less_flipped p q e = orders.less_flipped path_total p q e

pub greater_flipped : (p q : List ℕ) → path_cmp p q ≡ Greater → path_cmp q p ≡ Less
greater_flipped p q e = orders.greater_flipped path_total p q e

pub same_path : (p q : List ℕ) → path_cmp p q ≡ Equal → p ≡ q
same_path p q e = orders.same_bytes p q e
