-- How shadowing and the order of the paths go together: what shadows has the higher rank, and whatever
-- stands between a path and one that it shadows is shadowed by the first or shadows the second.
use Rattle.std.proofs.Common.{◌≡◌, ℕ, ◌<◌, ◌≤◌, Bool, true, false, List, [], ◌∷◌, refl, sym, ◌∙◌, arith}
use Rattle.std.specs.declared.cmp.Ordering.{Ordering}
use Rattle.std.specs.declared.cmp.Ordering.TheVariants.{Less, Equal, Greater}
use Rattle.std.specs.Cmp.{IsTotalOrder, IsStrictWeakOrder}
use Rattle.std.specs.FinMap.{IsAntisymmetric, slice_cmp-IsAntisymmetric}
use Rattle.std.specs.Ordering.{nat_cmp, ordering_then, is_gt, is_lt, MatchOrdering}
use Rattle.std.specs.Prelude.{nat_lt, nat_eq, ◌&&◌, if◌then◌else◌}
use Rattle.std.proofs.lemmas.Bool.{false≢true, true≢false, ltb-true, ltb-false, lt-ltb}
use Rattle.std.proofs.lemmas.Bool.Decides.{nat_tests}
use Rattle.std.proofs.lemmas.Cmp.{ranked, then_total, on_total, back_total, lists_total, nat_cmp_total, alike_right}
use Rattle.std.proofs.lemmas.List.Sorted.{ranks_by}
use Rattle.shadowing.specs.declared.paths.EdgeStep.{EdgeStep}
use Rattle.shadowing.specs.Shadow.{shadows}
use Rattle.shadowing.specs.Ranks.{by_step, by_rank}

pub by_step_total : IsTotalOrder by_step
by_step_total =
    then_total (on_total (λ (s : EdgeStep). s.precedence) nat_cmp_total)
    (then_total (on_total (λ (s : EdgeStep). s.edge.file) nat_cmp_total) (on_total (λ (s : EdgeStep). s.edge.edge) nat_cmp_total))

pub by_rank_total : IsTotalOrder by_rank
by_rank_total = back_total (lists_total by_step_total)

-- whatever has a path is ranked by it
pub ranks : {X : Type 0} (key : X → List EdgeStep) → IsStrictWeakOrder (λ a b. is_lt (by_rank (key a) (key b)))
ranks key = ranks_by by_rank_total key

-- what shadowing makes of two steps that stand so: by the higher precedence, or by what comes after them
abbrev pick : Ordering → Bool → Bool → Bool
pick Less higher rest = higher
pick Equal higher rest = rest
pick Greater higher rest = false

picked : (p q f g e h : ℕ) (rest : Bool) (first second third : Ordering) → MatchOrdering first (q < p) (q ≡ p) (p < q) → MatchOrdering second (g < f) (g ≡ f) (f < g) → MatchOrdering third (h < e) (h ≡ e) (e < h) → (if nat_eq f g && nat_eq e h && nat_eq p q then rest else nat_lt q p) ≡ pick (ordering_then first (ordering_then second third)) (nat_lt q p) rest
picked p q f g e h rest Less second third a b c = grind (arith, nat_tests)
picked p q f g e h rest Equal Less third a b c = grind (arith, nat_tests)
picked p q f g e h rest Equal Equal Less a b c = grind (arith, nat_tests)
picked p q f g e h rest Equal Equal Equal a b c = grind (arith, nat_tests)
picked p q f g e h rest Equal Equal Greater a b c = grind (arith, nat_tests)
picked p q f g e h rest Equal Greater third a b c = grind (arith, nat_tests)
picked p q f g e h rest Greater second third a b c = grind (arith, nat_tests)

-- whether one path shadows another, by the order of their first steps
shadows-step : (x y : EdgeStep) (xs ys : List EdgeStep) → shadows (x ∷ xs) (y ∷ ys) ≡ pick (by_step y x) (nat_lt y.precedence x.precedence) (shadows xs ys)
shadows-step x y xs ys =
    picked x.precedence y.precedence x.edge.file y.edge.file x.edge.edge y.edge.edge (shadows xs ys) _ _ _
    (ranked y.precedence x.precedence _ refl) (ranked y.edge.file x.edge.file _ refl) (ranked y.edge.edge x.edge.edge _ refl)

-- the higher step has no lower precedence
lower : (x y : EdgeStep) → by_step y x ≡ Less → y.precedence ≤ x.precedence
lower x y h = by (nat_cmp y.precedence x.precedence) (ranked y.precedence x.precedence _ refl) h
  where
    by : (o : Ordering) → MatchOrdering o (y.precedence < x.precedence) (y.precedence ≡ x.precedence) (x.precedence < y.precedence) → ordering_then o (ordering_then (nat_cmp y.edge.file x.edge.file) (nat_cmp y.edge.edge x.edge.edge)) ≡ Less → y.precedence ≤ x.precedence
    by Less a e = omega arith
    by Equal a e = omega arith
    by Greater a e = cc

-- equal steps have one precedence
alike : (x y : EdgeStep) → by_step y x ≡ Equal → y.precedence ≡ x.precedence
alike x y h = by (nat_cmp y.precedence x.precedence) (ranked y.precedence x.precedence _ refl) h
  where
    by : (o : Ordering) → MatchOrdering o (y.precedence < x.precedence) (y.precedence ≡ x.precedence) (x.precedence < y.precedence) → ordering_then o (ordering_then (nat_cmp y.edge.file x.edge.file) (nat_cmp y.edge.edge x.edge.edge)) ≡ Equal → y.precedence ≡ x.precedence
    by Less a e = cc
    by Equal a e = a
    by Greater a e = cc

nat_cmp-same : IsAntisymmetric nat_cmp
nat_cmp-same x y e = ranked x y Equal (sym e)

both_equal : (o p : Ordering) → ordering_then o p ≡ Equal → (o ≡ Equal) × (p ≡ Equal)
both_equal Less p e = cc
both_equal Equal p e = (refl, e)
both_equal Greater p e = cc

by_step-same : IsAntisymmetric by_step
by_step-same x y e =
    let a = both_equal (nat_cmp x.precedence y.precedence) _ e in
    let b = both_equal (nat_cmp x.edge.file y.edge.file) (nat_cmp x.edge.edge y.edge.edge) a.1 in
    let p = nat_cmp-same x.precedence y.precedence a.0 in
    let f = nat_cmp-same x.edge.file y.edge.file b.0 in
    let n = nat_cmp-same x.edge.edge y.edge.edge b.1 in
    λ i. record { precedence = p i; edge = record { file = f i; edge = n i } }

-- paths of one rank are one path
pub by_rank-Equal : (a b : List EdgeStep) → by_rank a b ≡ Equal → a ≡ b
by_rank-Equal a b e = sym (slice_cmp-IsAntisymmetric by_step-same b a e)

-- what shadows has the higher rank
pub shadows-rank : (xs ys : List EdgeStep) → shadows xs ys ≡ true → by_rank xs ys ≡ Less
shadows-rank [] ys t = absurd (false≢true t)
shadows-rank (x ∷ xs) [] t = absurd (false≢true t)
shadows-rank (x ∷ xs) (y ∷ ys) t = by (shadows-rank xs ys) (by_step y x) (sym (shadows-step x y xs ys) ∙ t)
  where
    by : (shadows xs ys ≡ true → by_rank xs ys ≡ Less) → (o : Ordering) → pick o (nat_lt y.precedence x.precedence) (shadows xs ys) ≡ true → ordering_then o (by_rank xs ys) ≡ Less
    by again Less h = refl
    by again Equal h = again h
    by again Greater h = absurd (false≢true h)

-- shadowing goes on from path to path
pub shadows-trans : (xs ys zs : List EdgeStep) → shadows xs ys ≡ true → shadows ys zs ≡ true → shadows xs zs ≡ true
shadows-trans [] ys zs h k = absurd (false≢true h)
shadows-trans (x ∷ xs) [] zs h k = absurd (false≢true h)
shadows-trans (x ∷ xs) (y ∷ ys) [] h k = absurd (false≢true k)
shadows-trans (x ∷ xs) (y ∷ ys) (z ∷ zs) h k =
    shadows-step x z xs zs
    ∙ by (shadows-trans xs ys zs) (by_step y x) (by_step z y) refl refl (sym (shadows-step x y xs ys) ∙ h) (sym (shadows-step y z ys zs) ∙ k)
  where
    by : (shadows xs ys ≡ true → shadows ys zs ≡ true → shadows xs zs ≡ true) → (o p : Ordering) → by_step y x ≡ o → by_step z y ≡ p → pick o (nat_lt y.precedence x.precedence) (shadows xs ys) ≡ true → pick p (nat_lt z.precedence y.precedence) (shadows ys zs) ≡ true → pick (by_step z x) (nat_lt z.precedence x.precedence) (shadows xs zs) ≡ true
    by again Less Less e f s t = rw (by_step_total.trans z y x f e) (lt-ltb z.precedence x.precedence (let a = ltb-true y.precedence x.precedence s in let b = ltb-true z.precedence y.precedence t in omega arith))
    by again Less Equal e f s t = rw (by_step_total.congr z y x f ∙ e) (rw (alike y z f) s)
    by again Equal Less e f s t = rw (sym (alike_right by_step_total y x z e) ∙ f) (rw (← alike x y e) t)
    by again Equal Equal e f s t = rw (by_step_total.congr z y x f ∙ e) (again s t)
    by again Greater p e f s t = absurd (false≢true s)
    by again Less Greater e f s t = absurd (false≢true t)
    by again Equal Greater e f s t = absurd (false≢true t)

-- a path between one and another that it shadows shadows the other, where the one does not shadow it
pub shadows-between : (xs ys zs : List EdgeStep) → is_gt (by_rank xs ys) ≡ false → is_gt (by_rank ys zs) ≡ false → shadows xs zs ≡ true → shadows xs ys ≡ false → shadows ys zs ≡ true
shadows-between [] ys zs h k t n = absurd (false≢true t)
shadows-between (x ∷ xs) ys [] h k t n = absurd (false≢true t)
shadows-between (x ∷ xs) [] (z ∷ zs) h k t n = absurd (true≢false k)
shadows-between (x ∷ xs) (y ∷ ys) (z ∷ zs) h k t n =
    shadows-step y z ys zs
    ∙ by (shadows-between xs ys zs) (by_step y x) (by_step z y) refl refl h k (sym (shadows-step x z xs zs) ∙ t) (sym (shadows-step x y xs ys) ∙ n)
  where
    by : (is_gt (by_rank xs ys) ≡ false → is_gt (by_rank ys zs) ≡ false → shadows xs zs ≡ true → shadows xs ys ≡ false → shadows ys zs ≡ true) → (o p : Ordering) → by_step y x ≡ o → by_step z y ≡ p → is_gt (ordering_then o (by_rank xs ys)) ≡ false → is_gt (ordering_then p (by_rank ys zs)) ≡ false → pick (by_step z x) (nat_lt z.precedence x.precedence) (shadows xs zs) ≡ true → pick o (nat_lt y.precedence x.precedence) (shadows xs ys) ≡ false → pick p (nat_lt z.precedence y.precedence) (shadows ys zs) ≡ true
    by again Less Less e f h k t n =
        let u = rw (by_step_total.trans z y x f e) at t in
        let a = ltb-true z.precedence x.precedence u in
        let b = ltb-false y.precedence x.precedence n in
        lt-ltb z.precedence y.precedence (omega arith)
    by again Less Equal e f h k t n = absurd (true≢false (sym (rw (by_step_total.congr z y x f ∙ e, alike y z f) at t) ∙ n))
    by again Equal Less e f h k t n = rw (alike x y e) (rw (sym (alike_right by_step_total y x z e) ∙ f) at t)
    by again Equal Equal e f h k t n = again h k (rw (by_step_total.congr z y x f ∙ e) at t) n
    by again Greater p e f h k t n = absurd (true≢false h)
    by again Less Greater e f h k t n = absurd (true≢false k)
    by again Equal Greater e f h k t n = absurd (true≢false k)
