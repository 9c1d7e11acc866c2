-- The closure compares each rule with the pair, and the slice is the set's rules.
use Rattle.std.proofs.Common.{◌≡◌, rules}
use Rattle.std.proofs.lemmas.Fn.{always_returns_same}
use Rattle.grants.specs.Pairs.{pair, pair_cmp}
use Rattle.grants.proofs.rule_set.RuleSet.place.Goals as goal
use Rattle.list_facts.proofs.Halving.{found, absent}
use Rattle.list_facts.proofs.SetPlaces.{set-searchable}
use Rattle.grants.proofs.Order.{pair_total}
use Rattle.grants.specs.Places.{beside}

pub returns-clause-found : goal.returns-clause-found
returns-clause-found c =
    let p = pair c.args.user.now c.args.prefix.now in
    let facts = c.binary_search_by.ensures in
    let by_pair = facts.position (λ q. pair_cmp q p) (always_returns_same _ (λ a r. r ≡ pair_cmp a.0.now p) _ (λ a r g called. (search rules, search rules))) in
    rw (← c.self.view_is, ← c.deref.ensures.value) (found (beside p) _ _ facts.bound by_pair)

pub returns-clause-absent : goal.returns-clause-absent
returns-clause-absent c =
    let p = pair c.args.user.now c.args.prefix.now in
    let facts = c.binary_search_by.ensures in
    let by_pair = facts.position (λ q. pair_cmp q p) (always_returns_same _ (λ a r. r ≡ pair_cmp a.0.now p) _ (λ a r g called. (search rules, search rules))) in
    rw (← c.self.view_is, ← c.deref.ensures.value) (absent (beside p) _ _ (set-searchable pair_total (λ q. q) p _ (rw c.deref.ensures.value c.self.invariant)) facts.bound by_pair)
