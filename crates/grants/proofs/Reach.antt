-- Which prefixes reach a path: its first bytes up to a cut, and no others.
use Rattle.std.proofs.Common.{◌≡◌, ℕ, zero, suc, ◌<◌, ◌≤◌, List, [], ◌∷◌, ◌++◌, length, get_or, take, true, ◌||◌, nat_eq, refl, sym, ap, subst, arith, eq-eqb, inl, inr}
use lib.Dec.{leb}
use Rattle.std.specs.List.{starts_with}
use Rattle.std.specs.Str.{bytes_eq}
use Rattle.std.proofs.lemmas.Bool.{or_cases, or_left, or_right, and_parts, and_from, eqb-true, leb-true, le-leb}
use Rattle.std.proofs.lemmas.Slice.Eq.{bytes_eq-Decides}
use Rattle.grants.specs.Covers.{reaches}
use Rattle.grants.specs.Steps.{is_cut}

-- the prefix is the path's first bytes, and a cut is behind it
pub record IsCutOf (prefix path : List ℕ) : Type 0 where
  pub first : prefix ≡ take (length prefix) path
  pub within : length prefix ≤ length path
  pub cut : is_cut path (length prefix) ≡ true

-- before a slash
record IsBeforeSlash (prefix path : List ℕ) : Type 0 where
  starts : prefix ≡ take (length prefix) path
  shorter : length prefix < length path
  slash : get_or path (length prefix) 0 ≡ 47

before_slash : (prefix path : List ℕ) → starts_with nat_eq path (prefix ++ 47 ∷ []) ≡ true → IsBeforeSlash prefix path
before_slash [] [] e = cc
before_slash [] (c ∷ cs) e = record { starts = refl; shorter = omega arith; slash = sym (eqb-true 47 c (and_parts _ _ e).0) }
before_slash (p ∷ ps) [] e = cc
before_slash (p ∷ ps) (c ∷ cs) e =
    let parts = and_parts (nat_eq p c) (starts_with nat_eq cs (ps ++ 47 ∷ [])) e in
    let rest = before_slash ps cs parts.1 in
    record { starts = λ i. eqb-true p c parts.0 i ∷ rest.starts i; shorter = let h = rest.shorter in omega arith; slash = rest.slash }

slash_starts : (path : List ℕ) (end : ℕ) → get_or path end 0 ≡ 47 → starts_with nat_eq path (take end path ++ 47 ∷ []) ≡ true
slash_starts [] end e = cc
slash_starts (c ∷ cs) zero e = and_from _ _ (eq-eqb 47 c (sym e)) refl
slash_starts (c ∷ cs) (suc end) e = and_from _ _ (eq-eqb c c refl) (slash_starts cs end e)

all_taken : (path : List ℕ) (n : ℕ) → length path ≤ n → take n path ≡ path
all_taken [] zero h = refl
all_taken [] (suc n) h = refl
all_taken (c ∷ cs) zero h = absurd (omega arith)
all_taken (c ∷ cs) (suc n) h = ap (λ r. c ∷ r) (all_taken cs n (omega arith))

cut-empty : (path : List ℕ) → is_cut path 0 ≡ true
unfolding is_cut
cut-empty path = refl

cut-whole : (path : List ℕ) → is_cut path (length path) ≡ true
unfolding is_cut
cut-whole path = or_left _ _ (or_right _ _ (le-leb (length path) (length path) (omega arith)))

cut-slash : (path : List ℕ) (n : ℕ) → get_or path n 0 ≡ 47 → is_cut path n ≡ true
unfolding is_cut
cut-slash path n e = or_right _ _ (eq-eqb (get_or path n 0) 47 e)

pub reaches-cut : (prefix path : List ℕ) → reaches prefix path ≡ true → IsCutOf prefix path
unfolding reaches
reaches-cut prefix path e = elim (or_cases (bytes_eq prefix [] || bytes_eq prefix path) (starts_with nat_eq path (prefix ++ 47 ∷ [])) e) as (λ _. IsCutOf prefix path) [
  | inl e' ↦ elim (or_cases (bytes_eq prefix []) (bytes_eq prefix path) e') as (λ _. IsCutOf prefix path) [
    | inl empty ↦ subst (λ (q : List ℕ). IsCutOf q path) (sym ((bytes_eq-Decides prefix []).0 empty)) (record { first = refl; within = omega arith; cut = cut-empty path })
    | inr same ↦ subst (λ (q : List ℕ). IsCutOf q path) (sym ((bytes_eq-Decides prefix path).0 same)) (record { first = sym (all_taken path (length path) (omega arith)); within = omega arith; cut = cut-whole path })
  ]
  | inr slash ↦ let b = before_slash prefix path slash in record { first = b.starts; within = let h = b.shorter in omega arith; cut = cut-slash path (length prefix) b.slash }
]

pub cut-reaches : (path : List ℕ) (end : ℕ) → is_cut path end ≡ true → reaches (take end path) path ≡ true
unfolding is_cut reaches
cut-reaches path end e = elim (or_cases (nat_eq end 0 || leb (length path) end) (nat_eq (get_or path end 0) 47) e) as (λ _. reaches (take end path) path ≡ true) [
  | inl e' ↦ elim (or_cases (nat_eq end 0) (leb (length path) end) e') as (λ _. reaches (take end path) path ≡ true) [
    | inl zeroth ↦ or_left _ _ (or_left _ _ (subst (λ (n : ℕ). bytes_eq (take n path) [] ≡ true) (sym (eqb-true end 0 zeroth)) refl))
    | inr whole ↦ or_left _ _ (or_right _ _ ((bytes_eq-Decides (take end path) path).1 (all_taken path end (leb-true (length path) end whole))))
  ]
  | inr slash ↦ or_right _ _ (slash_starts path end (eqb-true (get_or path end 0) 47 slash))
]
