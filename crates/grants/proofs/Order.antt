-- The order of pairs is total, and pairs that tie are the same.
use Rattle.std.proofs.Common.{◌≡◌}
use Rattle.std.specs.Cmp.{IsTotalOrder}
use Rattle.std.specs.Cmp.Lexicographic.{slice_cmp}
use Rattle.std.specs.Ordering.{nat_cmp}
use Rattle.std.specs.declared.cmp.Ordering.TheVariants.{Equal}
use Rattle.std.proofs.lemmas.Cmp.{then_total, on_total, nat_list_cmp_total, tied_itself}
use Rattle.grants.specs.Pairs.{Pair, pair_cmp}
use Rattle.list_facts.proofs.Orders.{both_tie, same_bytes}

pub pair_total : IsTotalOrder pair_cmp
pair_total = then_total (on_total (λ (p : Pair). p.user) nat_list_cmp_total) (on_total (λ (p : Pair). p.prefix) nat_list_cmp_total)

pub tied : (p : Pair) → pair_cmp p p ≡ Equal
tied p = tied_itself pair_total p

pub same_pair : (p q : Pair) → pair_cmp p q ≡ Equal → p ≡ q
same_pair p q e = let parts = both_tie (slice_cmp nat_cmp p.user q.user) (slice_cmp nat_cmp p.prefix q.prefix) e in
    λ i. record { user = same_bytes p.user q.user parts.0 i; prefix = same_bytes p.prefix q.prefix parts.1 i }
