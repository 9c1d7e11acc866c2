-- One pass over paths in order of rank: a path is shadowed exactly where the last one that was kept shadows it.
use Rattle.std.proofs.Common.{◌≡◌, suc, ◌+◌, Bool, true, false, not, List, [], ◌∷◌, map, ◌⊎◌, inl, inr, refl, sym, ap, ◌∙◌, arith}
use Rattle.std.specs.declared.cmp.Ordering.{Ordering}
use Rattle.std.specs.declared.cmp.Ordering.TheVariants.{Less, Equal, Greater}
use Rattle.std.specs.List.{filter, dedup, dedup_from}
use Rattle.std.specs.List.Sorted.{IsSortedBy}
use Rattle.std.specs.Ordering.{is_lt, is_gt, ordering_reverse}
use Rattle.std.proofs.lemmas.Bool.{true≢false, cases_Bool, or_cases, or_left, or_right, or_from, false_from_ne_true}
use Rattle.std.proofs.lemmas.Cmp.{upto, tied_itself}
use Rattle.shadowing.specs.declared.paths.EdgeStep.{EdgeStep}
use Rattle.shadowing.specs.Shadow.{shadows, is_shadowed}
use Rattle.shadowing.specs.Ranks.{by_rank}
use Rattle.shadowing.proofs.Order.{by_rank_total, shadows-rank, shadows-trans, shadows-between}

-- no path shadows one that ranks as high
not_shadows : (q p : List EdgeStep) → is_gt (by_rank p q) ≡ false → shadows q p ≡ false
not_shadows q p h =
    false_from_ne_true (shadows q p)
    (λ t. true≢false (sym (ap is_gt (by_rank_total.antisymm p q ∙ ap ordering_reverse (shadows-rank q p t))) ∙ h))

ranks_itself : (p : List EdgeStep) → is_gt (by_rank p p) ≡ false
ranks_itself p = ap is_gt (tied_itself by_rank_total p)

module _ {X : Type 0} (key : X → List EdgeStep) where
  -- the elements fall in rank, from a first one on
  Falls : X → List X → Type 0
  Falls b [] = Unit {0}
  Falls b (x ∷ xs) = (is_gt (by_rank (key b) (key x)) ≡ false) × Falls x xs

  turned : (o : Ordering) → is_gt (ordering_reverse o) ≡ is_lt o
  turned Less = refl
  turned Equal = refl
  turned Greater = refl

  falls : (b : X) (xs : List X) → IsSortedBy (λ x y. is_lt (by_rank (key x) (key y))) (b ∷ xs) → Falls b xs
  unfolding Falls
  falls b [] h = tt
  falls b (x ∷ xs) h = (
    ap is_gt (by_rank_total.antisymm (key b) (key x)) ∙ turned (by_rank (key x) (key b)) ∙ h 0 x (omega arith) (omega arith),
    falls x xs (λ k d low within. let e : suc k + 1 ≡ suc (k + 1) = omega arith in rw e at (h (suc k) d (omega arith) (omega arith))),
  )

  -- none of them shadows a path that ranks as high as the first
  none_later : (b : X) (xs : List X) (p : List EdgeStep) → is_gt (by_rank p (key b)) ≡ false → Falls b xs → is_shadowed (map key xs) p ≡ false
  unfolding Falls
  none_later b [] p h f = refl
  none_later b (x ∷ xs) p h f =
      let k : is_gt (by_rank p (key x)) ≡ false = upto by_rank_total p (key b) (key x) h f.0 in
      or_from (shadows (key x) p) (is_shadowed (map key xs) p) (not_shadows (key x) p k) (none_later x xs p k f.1)

  module _ (sh : List EdgeStep → Bool) where
    -- where the pass stands, at `rest`, with `last` kept last and `b` met last: of what is left, `sh` tells
    -- what `last` or one of `rest` shadows
    record Stands (last b : X) (rest : List X) : Type 0 where
      above : is_gt (by_rank (key last) (key b)) ≡ false
      tells : (p : List EdgeStep) → is_gt (by_rank (key b) p) ≡ false → sh p ≡ true → (shadows (key last) p ≡ true) ⊎ (is_shadowed (map key rest) p ≡ true)
      by_last : (p : List EdgeStep) → shadows (key last) p ≡ true → sh p ≡ true
      by_rest : (p : List EdgeStep) → is_shadowed (map key rest) p ≡ true → sh p ≡ true

    -- after an element that the last one kept shadows
    left_out : (last b x : X) (xs : List X) → is_gt (by_rank (key b) (key x)) ≡ false → shadows (key last) (key x) ≡ true → Stands last b (x ∷ xs) → Stands last x xs
    left_out last b x xs h t s = record {
      above = upto by_rank_total (key last) (key b) (key x) s.above h;
      tells = λ p k e. more p (s.tells p (upto by_rank_total (key b) (key x) p h k) e);
      by_last = s.by_last;
      by_rest = λ p k. s.by_rest p (or_right (shadows (key x) p) (is_shadowed (map key xs) p) k);
    }
      where
        one : (p : List EdgeStep) → (shadows (key x) p ≡ true) ⊎ (is_shadowed (map key xs) p ≡ true) → (shadows (key last) p ≡ true) ⊎ (is_shadowed (map key xs) p ≡ true)
        one p (inl k) = inl (shadows-trans (key last) (key x) p t k)
        one p (inr k) = inr k

        more : (p : List EdgeStep) → (shadows (key last) p ≡ true) ⊎ (is_shadowed (map key (x ∷ xs)) p ≡ true) → (shadows (key last) p ≡ true) ⊎ (is_shadowed (map key xs) p ≡ true)
        more p (inl k) = inl k
        more p (inr k) = one p (or_cases (shadows (key x) p) (is_shadowed (map key xs) p) k)

    -- after one that it doesn't shadow, which is kept
    kept : (last b x : X) (xs : List X) → is_gt (by_rank (key b) (key x)) ≡ false → shadows (key last) (key x) ≡ false → Stands last b (x ∷ xs) → Stands x x xs
    kept last b x xs h t s = record {
      above = ranks_itself (key x);
      tells = λ p k e. more p k (s.tells p (upto by_rank_total (key b) (key x) p h k) e);
      by_last = λ p k. s.by_rest p (or_left (shadows (key x) p) (is_shadowed (map key xs) p) k);
      by_rest = λ p k. s.by_rest p (or_right (shadows (key x) p) (is_shadowed (map key xs) p) k);
    }
      where
        more : (p : List EdgeStep) → is_gt (by_rank (key x) p) ≡ false → (shadows (key last) p ≡ true) ⊎ (is_shadowed (map key (x ∷ xs)) p ≡ true) → (shadows (key x) p ≡ true) ⊎ (is_shadowed (map key xs) p ≡ true)
        more p k (inl e) = inl (shadows-between (key last) (key x) p (upto by_rank_total (key last) (key b) (key x) s.above h) k e t)
        more p k (inr e) = or_cases (shadows (key x) p) (is_shadowed (map key xs) p) e

    -- such an element isn't shadowed
    fresh : (last b x : X) (xs : List X) → Falls b (x ∷ xs) → shadows (key last) (key x) ≡ false → Stands last b (x ∷ xs) → sh (key x) ≡ false
    unfolding Falls
    fresh last b x xs f t s = false_from_ne_true (sh (key x)) (λ e. none (s.tells (key x) f.0 e))
      where
        later : (is_shadowed (map key (x ∷ xs)) (key x)) ≡ false
        later = or_from (shadows (key x) (key x)) (is_shadowed (map key xs) (key x)) (not_shadows (key x) (key x) (ranks_itself (key x))) (none_later x xs (key x) (ranks_itself (key x)) f.1)

        none : (shadows (key last) (key x) ≡ true) ⊎ (is_shadowed (map key (x ∷ xs)) (key x) ≡ true) → ⊥
        none (inl e) = true≢false (sym e ∙ t)
        none (inr e) = true≢false (sym e ∙ later)

    step : (last x : X) (xs : List X) → ((shadows (key last) (key x) ≡ true) × (sh (key x) ≡ true) × (dedup_from (λ a k. shadows (key k) (key a)) last xs ≡ last ∷ filter (λ a. not (sh (key a))) xs)) ⊎ ((shadows (key last) (key x) ≡ false) × (sh (key x) ≡ false) × (dedup_from (λ a k. shadows (key k) (key a)) x xs ≡ x ∷ filter (λ a. not (sh (key a))) xs)) → dedup_from (λ a k. shadows (key k) (key a)) last (x ∷ xs) ≡ last ∷ filter (λ a. not (sh (key a))) (x ∷ xs)
    step last x xs (inl h) = rw (h.0, h.1) h.2
    step last x xs (inr h) = rw (h.0, h.1) (ap (λ (l : List X). last ∷ l) h.2)

    pass : (last b : X) (xs : List X) → Falls b xs → Stands last b xs → dedup_from (λ a k. shadows (key k) (key a)) last xs ≡ last ∷ filter (λ a. not (sh (key a))) xs
    unfolding Falls
    pass last b [] f s = refl
    pass last b (x ∷ xs) f s =
        step last x xs
        (by (λ g. pass last x xs f.1 g) (λ g. pass x x xs f.1 g) (cases_Bool (shadows (key last) (key x))))
      where
        Kept : X → Type 0
        Kept l = dedup_from (λ a k. shadows (key k) (key a)) l xs ≡ l ∷ filter (λ a. not (sh (key a))) xs

        by : (Stands last x xs → Kept last) → (Stands x x xs → Kept x) → (shadows (key last) (key x) ≡ true) ⊎ (shadows (key last) (key x) ≡ false) → ((shadows (key last) (key x) ≡ true) × (sh (key x) ≡ true) × Kept last) ⊎ ((shadows (key last) (key x) ≡ false) × (sh (key x) ≡ false) × Kept x)
        by out in' (inl t) = inl (t, s.by_last (key x) t, out (left_out last b x xs f.0 t s))
        by out in' (inr t) = inr (t, fresh last b x xs f t s, in' (kept last b x xs f.0 t s))

  -- the pass leaves what none of them shadows
  pub front_is : (xs : List X) → IsSortedBy (λ x y. is_lt (by_rank (key x) (key y))) xs → dedup (λ a k. shadows (key k) (key a)) xs ≡ filter (λ a. not (is_shadowed (map key xs) (key a))) xs
  front_is [] h = refl
  front_is (x ∷ xs) h =
      rw (first) (pass (is_shadowed (map key (x ∷ xs))) x x xs (falls x xs h) start)
    where
      first : is_shadowed (map key (x ∷ xs)) (key x) ≡ false
      first = or_from (shadows (key x) (key x)) (is_shadowed (map key xs) (key x)) (not_shadows (key x) (key x) (ranks_itself (key x))) (none_later x xs (key x) (ranks_itself (key x)) (falls x xs h))

      start : Stands (is_shadowed (map key (x ∷ xs))) x x xs
      start = record {
        above = ranks_itself (key x);
        tells = λ p k e. or_cases (shadows (key x) p) (is_shadowed (map key xs) p) e;
        by_last = λ p k. or_left (shadows (key x) p) (is_shadowed (map key xs) p) k;
        by_rest = λ p k. or_right (shadows (key x) p) (is_shadowed (map key xs) p) k;
      }
