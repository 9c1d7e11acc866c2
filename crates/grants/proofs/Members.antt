-- Members of a set of pairs: where its test of a pair says so, the pair stands in it.
use Rattle.std.proofs.Common.{◌≡◌, List, Bool, true, ap, subst}
use Rattle.std.specs.List.{filter, list_any, list_all}
use Rattle.std.specs.Ordering.{is_eq}
use Rattle.list_facts.specs.Members.{IsIn}
use Rattle.list_facts.proofs.Orders.{is_tie}
use Rattle.list_facts.proofs.Members.{IsIn-filter, IsIn-filter_from, passing_member, list_any-from_member, list_all-at_member, list_all-from_members}
use Rattle.grants.specs.Pairs.{Pair, pair_cmp, has_pair}
use Rattle.grants.proofs.Order.{same_pair, tied}

pub IsIn-from_has : (q : Pair) (ps : List Pair) → has_pair q ps ≡ true → IsIn q ps
unfolding has_pair
IsIn-from_has q ps e =
    let r = passing_member (λ (r : Pair). is_eq (pair_cmp r q)) ps e in
    subst (λ (p : Pair). IsIn p ps) (same_pair r.0 q (is_tie (pair_cmp r.0 q) r.2)) r.1

pub has-from_IsIn : (q : Pair) (ps : List Pair) → IsIn q ps → has_pair q ps ≡ true
unfolding has_pair
has-from_IsIn q ps h = list_any-from_member (λ (r : Pair). is_eq (pair_cmp r q)) q ps h (ap is_eq (tied q))

-- a test that a member passes, and one that each passes
pub any-member : (t : Pair → Bool) (q : Pair) (ps : List Pair) → has_pair q ps ≡ true → t q ≡ true → list_any t ps ≡ true
any-member t q ps e h = list_any-from_member t q ps (IsIn-from_has q ps e) h

pub some-member : (t : Pair → Bool) (ps : List Pair) → list_any t ps ≡ true → (q : Pair) × (has_pair q ps ≡ true) × (t q ≡ true)
some-member t ps e = let r = passing_member t ps e in (r.0, has-from_IsIn r.0 ps r.1, r.2)

pub all-member : (t : Pair → Bool) (q : Pair) (ps : List Pair) → list_all t ps ≡ true → has_pair q ps ≡ true → t q ≡ true
all-member t q ps e h = list_all-at_member t q ps e (IsIn-from_has q ps h)

pub all-from : (t : Pair → Bool) (ps : List Pair) → ((q : Pair) → has_pair q ps ≡ true → t q ≡ true) → list_all t ps ≡ true
all-from t ps each = list_all-from_members t ps (λ q h. each q (has-from_IsIn q ps h))

-- members of a filtered set are members that pass
pub filtered : (g : Pair → Bool) (q : Pair) (ps : List Pair) → has_pair q ps ≡ true → g q ≡ true → has_pair q (filter g ps) ≡ true
filtered g q ps e h = has-from_IsIn q (filter g ps) (IsIn-filter g q ps (IsIn-from_has q ps e) h)

pub unfiltered : (g : Pair → Bool) (q : Pair) (ps : List Pair) → has_pair q (filter g ps) ≡ true → (has_pair q ps ≡ true) × (g q ≡ true)
unfiltered g q ps e = let r = IsIn-filter_from g q ps (IsIn-from_has q (filter g ps) e) in (has-from_IsIn q ps r.0, r.1)
