-- Rows that are sorted, with each once, rise by file and then by position.
use Rattle.std.proofs.Common.{◌≡◌, ℕ, ◌<◌, Bool, List, [], ◌∷◌, ◌&&◌, eqb, inl, inr, Contains, ◌↔◌, subst, refl, sym, ap, ◌∙◌, true, arith, eqb-true}
use Rattle.std.specs.declared.cmp.Ordering.{Ordering}
use Rattle.std.specs.declared.cmp.Ordering.TheVariants.{Less, Equal, Greater}
use Rattle.std.specs.Cmp.{IsTotalOrder, IsEquivalence, tied_then}
use Rattle.std.specs.Ordering.{nat_cmp, ordering_then, eq_by_cmp, is_eq, MatchOrdering}
use Rattle.std.specs.List.{AllByRecursion, dedup}
use Rattle.std.specs.List.Sorted.{IsStrictlySortedBy, IsSorted, IsPermutation}
use Rattle.std.proofs.lemmas.Bool.{and_parts}
use Rattle.std.proofs.lemmas.Bool.Decides.{nat_tests}
use Rattle.std.proofs.lemmas.List.Kept.{Contains-dedup, Contains-from_dedup, IsStrictlySortedBy-dedup}
use Rattle.std.proofs.lemmas.List.Sorted.{Contains-permutation, IsPermutation-sym}
use Rattle.std.proofs.lemmas.Cmp.{ranked, then_total, on_total, nat_cmp_total, on_equiv, and_equiv, nat_eq_equiv}
use Rattle.whole_search.specs.declared.found.Hit.{Hit}
use Rattle.whole_search.specs.Answers.{ComesBefore, IsRising}

-- which of two rows comes first
abbrev pub by_place : Hit → Hit → Ordering
by_place a b = ordering_then (nat_cmp a.file b.file) (nat_cmp a.node b.node)

pub by_place_total : IsTotalOrder by_place
by_place_total = then_total (on_total (λ (h : Hit). h.file) nat_cmp_total) (on_total (λ (h : Hit). h.node) nat_cmp_total)

before_from : (a b : Hit) (first second : Ordering) → MatchOrdering first (a.file < b.file) (a.file ≡ b.file) (b.file < a.file) → MatchOrdering second (a.node < b.node) (a.node ≡ b.node) (b.node < a.node) → ordering_then first second ≡ Less → ComesBefore a b
before_from a b Less second p q e = inl p
before_from a b Equal Less p q e = inr (p, q)
before_from a b Equal Equal p q e = cc
before_from a b Equal Greater p q e = cc
before_from a b Greater second p q e = cc

before_from_less : (a b : Hit) → by_place a b ≡ Less → ComesBefore a b
before_from_less a b e =
    before_from a b (nat_cmp a.file b.file) (nat_cmp a.node b.node) (ranked a.file b.file _ refl) (ranked a.node b.node _ refl) e

all_before : (a : Hit) (rows : List Hit) → AllByRecursion (λ b. by_place a b ≡ Less) rows → AllByRecursion (ComesBefore a) rows
all_before a [] h = tt
all_before a (b ∷ rows) h = (before_from_less a b h.0, all_before a rows h.1)

pub IsRising-from_sorted : (rows : List Hit) → IsStrictlySortedBy by_place rows → IsRising rows
unfolding IsStrictlySortedBy
IsRising-from_sorted [] h = tt
IsRising-from_sorted (a ∷ rows) h = (all_before a rows h.0, IsRising-from_sorted rows h.1)

-- the same rows, where the one list is another
pub exact_along : (rows ends others : List Hit) → ends ≡ others → ((hit : Hit) → Contains rows hit ↔ Contains ends hit) → (hit : Hit) → Contains rows hit ↔ Contains others hit
exact_along rows ends others e h =
    let P : List Hit → Type 0 = λ xs. (hit : Hit) → Contains rows hit ↔ Contains xs hit in subst P e h

-- whether two rows are the same
abbrev pub same_place : Hit → Hit → Bool
same_place a b = eqb a.file b.file && eqb a.node b.node

pub same_place_equiv : IsEquivalence same_place
same_place_equiv = and_equiv (on_equiv (λ (h : Hit). h.file) nat_eq_equiv) (on_equiv (λ (h : Hit). h.node) nat_eq_equiv)

eqb_ties : (a b : ℕ) → eqb a b ≡ is_eq (nat_cmp a b)
eqb_ties a b = grind (arith, nat_tests)

pub same_place_ties : (a b : Hit) → same_place a b ≡ eq_by_cmp by_place a b
same_place_ties a b =
    ap (λ x. x && eqb a.node b.node) (eqb_ties a.file b.file)
    ∙ (ap (λ x. is_eq (nat_cmp a.file b.file) && x) (eqb_ties a.node b.node) ∙ tied_then (nat_cmp a.file b.file) (nat_cmp a.node b.node))

pub same_place_is : (a b : Hit) → same_place a b ≡ true → a ≡ b
same_place_is a b t =
    let p = and_parts (eqb a.file b.file) (eqb a.node b.node) t in
    let f = eqb-true a.file b.file p.0 in
    let n = eqb-true a.node b.node p.1 in
    λ i. record { file = f i; node = n i }

-- sorted rows, each once, rise
pub sorted_rising : (sorted kept : List Hit) → IsSorted by_place sorted → kept ≡ dedup same_place sorted → IsRising kept
sorted_rising sorted kept h is =
    subst IsRising (sym is) (IsRising-from_sorted (dedup same_place sorted) (IsStrictlySortedBy-dedup by_place_total same_place_ties sorted h))

-- sorted rows, each once, are the rows that they were
pub sorted_exact : (rows sorted kept : List Hit) → IsPermutation rows sorted → kept ≡ dedup same_place sorted → (hit : Hit) → Contains kept hit ↔ Contains rows hit
sorted_exact rows sorted kept moved is hit = (
  λ h. Contains-permutation sorted rows hit (IsPermutation-sym rows sorted moved) (Contains-from_dedup same_place sorted hit (subst (λ (xs : List Hit). Contains xs hit) is h)),
  λ h. subst (λ (xs : List Hit). Contains xs hit) (sym is) (Contains-dedup same_place_equiv same_place_is sorted hit (Contains-permutation rows sorted hit moved h)),
)
