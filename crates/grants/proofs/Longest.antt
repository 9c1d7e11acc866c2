-- Going from the whole path down to its empty prefix, the first rule decides.
use Rattle.std.proofs.Common.{◌≡◌, ℕ, ◌<◌, ◌≤◌, List, length, take, Bool, true, false, Option, Some, None, if◌then◌else◌, arith, refl, sym, ap, ◌∙◌, subst, inl, inr, ◌⊎◌, nat_lt}
use Rattle.std.specs.List.{filter, list_all}
use Rattle.std.specs.Option.{unwrap_or}
use Rattle.std.specs.Str.{bytes_eq}
use Rattle.std.proofs.lemmas.Bool.{cases_order, cases_eq, and_parts, and_from, false_from_ne_true, lt-ltb, ltb-true}
use Rattle.std.proofs.lemmas.Slice.Eq.{bytes_eq-Decides}
use Rattle.std.proofs.lemmas.List.{length-take-le}
use Rattle.grants.specs.Pairs.{Pair, pair, has_pair}
use Rattle.grants.specs.Covers.{Rules, reaches, speaks_of, is_longer, is_granted}
use Rattle.grants.specs.Steps.{is_cut, verdict_at}
use Rattle.grants.proofs.Members as members
use Rattle.grants.proofs.Reach as reach

-- what the user's rule for so much of the path is
abbrev at : List ℕ → List ℕ → ℕ → Pair
at user path end = pair user (take end path)

-- a pair that speaks of the path is the user's, for the bytes before a cut
record Spoken (user path : List ℕ) (p : Pair) : Type 0 where
  is : p ≡ at user path (length p.prefix)
  within : length p.prefix ≤ length path
  cut : is_cut path (length p.prefix) ≡ true

spoken : (user path : List ℕ) (p : Pair) → speaks_of user path p ≡ true → Spoken user path p
unfolding speaks_of
spoken user path p e =
    let parts = and_parts (bytes_eq p.user user) (reaches p.prefix path) e in
    let c = reach.reaches-cut p.prefix path parts.1 in
    record { is = λ i. record { user = (bytes_eq-Decides p.user user).0 parts.0 i; prefix = c.first i }; within = c.within; cut = c.cut }

speaks : (user path : List ℕ) (end : ℕ) → is_cut path end ≡ true → speaks_of user path (at user path end) ≡ true
unfolding speaks_of
speaks user path end cut = and_from _ _ ((bytes_eq-Decides user user).1 refl) (reach.cut-reaches path end cut)

-- what a verdict tells of the two sets
record Denies (rules : Rules) (user path : List ℕ) (end : ℕ) (v : Bool) : Type 0 where
  is : v ≡ false
  cut : is_cut path end ≡ true
  denied : has_pair (at user path end) rules.denied ≡ true

record Allows (rules : Rules) (user path : List ℕ) (end : ℕ) (v : Bool) : Type 0 where
  is : v ≡ true
  cut : is_cut path end ≡ true
  denied : has_pair (at user path end) rules.denied ≡ false
  granted : has_pair (at user path end) rules.granted ≡ true

abbrev verdict : Bool → Bool → Bool → Option Bool
verdict cut denied granted = if cut then (if denied then Some false else (if granted then Some true else None)) else None

told : (c d g v : Bool) → verdict c d g ≡ Some v → ((v ≡ false) × (c ≡ true) × (d ≡ true)) ⊎ ((v ≡ true) × (c ≡ true) × (d ≡ false) × (g ≡ true))
told true true g v e = inl (cc, refl, refl)
told true false true v e = inr (cc, refl, refl, refl)
told true false false v e = cc
told false d g v e = cc

loud : (c d g : Bool) → c ≡ true → (d ≡ true) ⊎ (g ≡ true) → verdict c d g ≡ None → ⊥
loud true true g a b e = cc
loud true false true a b e = cc
loud true false false a (inl x) e = cc
loud true false false a (inr x) e = cc
loud false d g a b e = cc

says-either : (rules : Rules) (user path : List ℕ) (end : ℕ) (v : Bool) → verdict_at rules user path end ≡ Some v → Denies rules user path end v ⊎ Allows rules user path end v
unfolding verdict_at
says-either rules user path end v e = elim (told (is_cut path end) (has_pair (at user path end) rules.denied) (has_pair (at user path end) rules.granted) v e) as (λ _. Denies rules user path end v ⊎ Allows rules user path end v) [
  | inl d ↦ inl (record { is = d.0; cut = d.1; denied = d.2 })
  | inr a ↦ inr (record { is = a.0; cut = a.1; denied = a.2; granted = a.3 })
]

-- a rule that speaks of the path is heard at its length
heard : (rules : Rules) (user path : List ℕ) (p : Pair) → Spoken user path p → (has_pair p rules.denied ≡ true) ⊎ (has_pair p rules.granted ≡ true) → verdict_at rules user path (length p.prefix) ≡ None → ⊥
unfolding verdict_at
heard rules user path p s h e =
    let n = length p.prefix in
    loud (is_cut path n) (has_pair (at user path n) rules.denied) (has_pair (at user path n) rules.granted) s.cut
    (subst (λ (q : Pair). (has_pair q rules.denied ≡ true) ⊎ (has_pair q rules.granted ≡ true)) s.is h) e

abbrev IsSilentFrom : Rules → List ℕ → List ℕ → ℕ → Type 0
IsSilentFrom rules user path end = (k : ℕ) → end < k → k ≤ length path → verdict_at rules user path k ≡ None

-- the test that a grant outranks the denies
abbrev outranks : Rules → List ℕ → List ℕ → Pair → Bool
outranks rules user path g = list_all (is_longer g) (filter (speaks_of user path) rules.denied)

denied : (rules : Rules) (user path : List ℕ) (end : ℕ) (v : Bool) → end ≤ length path → IsSilentFrom rules user path end → Denies rules user path end v → is_granted rules user path ≡ false
unfolding is_granted
denied rules user path end v le silent d = false_from_ne_true _ (λ e.
    let g = members.some-member (outranks rules user path) (filter (speaks_of user path) rules.granted) e in
    let here = members.unfiltered (speaks_of user path) g.0 rules.granted g.1 in
    let s = spoken user path g.0 here.1 in
    let deny = members.filtered (speaks_of user path) (at user path end) rules.denied d.denied (speaks user path end d.cut) in
    let longer = members.all-member (is_longer g.0) (at user path end) _ g.2 deny in
    let lt : length (take end path) < length g.0.prefix = ltb-true _ _ longer in
    let n : length (take end path) ≡ end = length-take-le end path le in
    heard rules user path g.0 s (inr here.0) (silent (length g.0.prefix) (omega arith) s.within))

allowed : (rules : Rules) (user path : List ℕ) (end : ℕ) (v : Bool) → end ≤ length path → IsSilentFrom rules user path end → Allows rules user path end v → is_granted rules user path ≡ true
unfolding is_granted
allowed rules user path end v le silent a =
    members.any-member (outranks rules user path) (at user path end) (filter (speaks_of user path) rules.granted)
    (members.filtered (speaks_of user path) (at user path end) rules.granted a.granted (speaks user path end a.cut))
    (members.all-from (is_longer (at user path end)) (filter (speaks_of user path) rules.denied) (λ q e.
    let here = members.unfiltered (speaks_of user path) q rules.denied e in
    let s = spoken user path q here.1 in
    let n : length (take end path) ≡ end = length-take-le end path le in
    elim (cases_order (length q.prefix) end) as (λ _. nat_lt (length q.prefix) (length (take end path)) ≡ true) [
      | inl same ↦
          let tie : q ≡ at user path end = s.is ∙ ap (at user path) same in
          let there : has_pair (at user path end) rules.denied ≡ true = subst (λ (p : Pair). has_pair p rules.denied ≡ true) tie here.0 in
          let not_there = a.denied in cc
      | inr other ↦ elim other as (λ _. nat_lt (length q.prefix) (length (take end path)) ≡ true) [
        | inl lower ↦ lt-ltb _ _ (omega arith)
        | inr higher ↦ absurd (heard rules user path q s (inl here.0) (silent (length q.prefix) higher s.within))
      ]
    ]))

pub decided : (rules : Rules) (user path : List ℕ) (end : ℕ) (v : Bool) → end ≤ length path → IsSilentFrom rules user path end → verdict_at rules user path end ≡ Some v → v ≡ is_granted rules user path
decided rules user path end v le silent says = elim (says-either rules user path end v says) as (λ _. v ≡ is_granted rules user path) [
  | inl d ↦ d.is ∙ sym (denied rules user path end v le silent d)
  | inr a ↦ a.is ∙ sym (allowed rules user path end v le silent a)
]

pub undecided : (rules : Rules) (user path : List ℕ) → ((k : ℕ) → k ≤ length path → verdict_at rules user path k ≡ None) → is_granted rules user path ≡ false
unfolding is_granted
undecided rules user path silent = false_from_ne_true _ (λ e.
    let g = members.some-member (outranks rules user path) (filter (speaks_of user path) rules.granted) e in
    let here = members.unfiltered (speaks_of user path) g.0 rules.granted g.1 in
    let s = spoken user path g.0 here.1 in
    heard rules user path g.0 s (inr here.0) (silent (length g.0.prefix) s.within))

-- the empty prefix is looked at last
pub last : (rules : Rules) (user path : List ℕ) (o : Option Bool) → o ≡ verdict_at rules user path 0 → IsSilentFrom rules user path 0 → unwrap_or o false ≡ is_granted rules user path
last rules user path (Some v) e silent = decided rules user path 0 v (omega arith) silent (sym e)
last rules user path None e silent = sym (undecided rules user path (λ k le. elim (cases_eq k 0) as (λ _. verdict_at rules user path k ≡ None) [
  | inl none ↦ ap (verdict_at rules user path) none ∙ sym e
  | inr some ↦ silent k (omega arith) le
]))
