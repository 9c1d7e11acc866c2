-- Sorted nodes, each once, rise by file and then by position.
use Rattle.std.proofs.Common.{◌≡◌, ℕ, ◌<◌, Bool, List, [], ◌∷◌, ◌&&◌, eqb, inl, inr, Contains, ◌↔◌, subst, refl, sym, ap, ◌∙◌, true, arith, eqb-true}
use Rattle.std.specs.declared.cmp.Ordering.{Ordering}
use Rattle.std.specs.declared.cmp.Ordering.TheVariants.{Less, Equal, Greater}
use Rattle.std.specs.Cmp.{IsTotalOrder, IsEquivalence, tied_then}
use Rattle.std.specs.Ordering.{nat_cmp, ordering_then, eq_by_cmp, is_eq, MatchOrdering}
use Rattle.std.specs.List.{AllByRecursion, dedup}
use Rattle.std.specs.List.Sorted.{IsStrictlySortedBy, IsSorted, IsPermutation}
use Rattle.std.proofs.lemmas.Bool.{and_parts}
use Rattle.std.proofs.lemmas.Bool.Decides.{nat_tests}
use Rattle.std.proofs.lemmas.List.Kept.{Contains-dedup, Contains-from_dedup, IsStrictlySortedBy-dedup}
use Rattle.std.proofs.lemmas.List.Sorted.{Contains-permutation, IsPermutation-sym}
use Rattle.std.proofs.lemmas.Cmp.{ranked, then_total, on_total, nat_cmp_total, on_equiv, and_equiv, nat_eq_equiv}
use Rattle.list_facts.specs.Apart.{Pairs}
use Rattle.stacks_vars.specs.declared.scopes.NodeAt.{NodeAt}
use Rattle.back_stitch.specs.Lists.{ComesBefore}

-- which of two nodes comes first
abbrev pub by_place : NodeAt → NodeAt → Ordering
by_place a b = ordering_then (nat_cmp a.file b.file) (nat_cmp a.node b.node)

by_place_total : IsTotalOrder by_place
by_place_total = then_total (on_total (λ (n : NodeAt). n.file) nat_cmp_total) (on_total (λ (n : NodeAt). n.node) nat_cmp_total)

before_from : (a b : NodeAt) (first second : Ordering) → MatchOrdering first (a.file < b.file) (a.file ≡ b.file) (b.file < a.file) → MatchOrdering second (a.node < b.node) (a.node ≡ b.node) (b.node < a.node)
    → ordering_then first second ≡ Less → ComesBefore a b
before_from a b Less second p q e = inl p
before_from a b Equal Less p q e = inr (p, q)
before_from a b Equal Equal p q e = cc
before_from a b Equal Greater p q e = cc
before_from a b Greater second p q e = cc

before : (a b : NodeAt) → by_place a b ≡ Less → ComesBefore a b
before a b e =
    before_from a b (nat_cmp a.file b.file) (nat_cmp a.node b.node) (ranked a.file b.file _ refl) (ranked a.node b.node _ refl) e

all_before : (a : NodeAt) (rows : List NodeAt) → AllByRecursion (λ (b : NodeAt). by_place a b ≡ Less) rows → AllByRecursion (ComesBefore a) rows
all_before a [] h = tt
all_before a (b ∷ rows) h = (before a b h.0, all_before a rows h.1)

rising_from : (rows : List NodeAt) → IsStrictlySortedBy by_place rows → Pairs ComesBefore rows
unfolding IsStrictlySortedBy
rising_from [] h = tt
rising_from (a ∷ rows) h = (all_before a rows h.0, rising_from rows h.1)

-- whether two nodes are the same
abbrev pub same_node : NodeAt → NodeAt → Bool
same_node a b = eqb a.file b.file && eqb a.node b.node

same_node_equiv : IsEquivalence same_node
same_node_equiv = and_equiv (on_equiv (λ (n : NodeAt). n.file) nat_eq_equiv) (on_equiv (λ (n : NodeAt). n.node) nat_eq_equiv)

eqb_ties : (a b : ℕ) → eqb a b ≡ is_eq (nat_cmp a b)
eqb_ties a b = grind (arith, nat_tests)

same_node_ties : (a b : NodeAt) → same_node a b ≡ eq_by_cmp by_place a b
same_node_ties a b =
    ap (λ x. x && eqb a.node b.node) (eqb_ties a.file b.file)
    ∙ (ap (λ x. is_eq (nat_cmp a.file b.file) && x) (eqb_ties a.node b.node) ∙ tied_then (nat_cmp a.file b.file) (nat_cmp a.node b.node))

same_node_is : (a b : NodeAt) → same_node a b ≡ true → a ≡ b
same_node_is a b t =
    let p = and_parts (eqb a.file b.file) (eqb a.node b.node) t in
    let f = eqb-true a.file b.file p.0 in
    let n = eqb-true a.node b.node p.1 in
    λ i. record { file = f i; node = n i }

pub sorted_rising : (sorted kept : List NodeAt) → IsSorted by_place sorted → kept ≡ dedup same_node sorted → Pairs ComesBefore kept
sorted_rising sorted kept h is =
    subst (λ (xs : List NodeAt). Pairs ComesBefore xs) (sym is)
    (rising_from (dedup same_node sorted) (IsStrictlySortedBy-dedup by_place_total same_node_ties sorted h))

pub sorted_exact : (rows sorted kept : List NodeAt) → IsPermutation rows sorted → kept ≡ dedup same_node sorted → (r : NodeAt) → Contains kept r ↔ Contains rows r
sorted_exact rows sorted kept moved is r = (
  λ h. Contains-permutation sorted rows r (IsPermutation-sym rows sorted moved) (Contains-from_dedup same_node sorted r (subst (λ (xs : List NodeAt). Contains xs r) is h)),
  λ h. subst (λ (xs : List NodeAt). Contains xs r) (sym is) (Contains-dedup same_node_equiv same_node_is sorted r (Contains-permutation rows sorted r moved h)),
)
