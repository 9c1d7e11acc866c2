-- Which variables an output may name: those of symbols with attached scopes; and what may be known of them.
use Rattle.std.proofs.Common.{◌≡◌, ◌<◌, ℕ, zero, suc, List, [], ◌∷◌, ◌++◌, length, drop, Bool, true, false, ◌&&◌, Option, Some, None, if◌then◌else◌, refl, ◌∙◌, arith}
use Rattle.std.specs.Option.{option_map_or}
use Rattle.std.specs.List.{flat_map}
use Rattle.stacks_vars.specs.declared.patterns.SymPat.{SymPat}
use Rattle.stacks_vars.specs.declared.patterns.Pre.{Pre}
use Rattle.stacks_vars.specs.declared.patterns.Tail.{Tail}
use Rattle.stacks_vars.specs.declared.patterns.Tail.TheVariants.{Nil, Front, Item}
use Rattle.stacks_vars.specs.declared.patterns.ScopeOut.{ScopeOut}
use Rattle.stacks_vars.specs.declared.patterns.SymOut.{SymOut}
use Rattle.stacks_vars.specs.declared.patterns.Post.{Post}
use Rattle.partial_path.specs.Rules.{has_scopes, tail_of, bad_place, bad_places}
use Rattle.path_join.proofs.AndLaws.{and_assoc, and_both, and_first, and_second}

-- whether the variable is that of a symbol with attached scopes, of the scope stack, or none
abbrev pub good_tail : List SymPat → Tail → Bool
good_tail symbols Nil = true
good_tail symbols Front = true
good_tail symbols (Item i) = has_scopes symbols i

abbrev pub good_scopes : List SymPat → Option ScopeOut → Bool
good_scopes symbols None = true
good_scopes symbols (Some out) = good_tail symbols out.tail

abbrev pub good_outs : List SymPat → List SymOut → Bool
good_outs symbols [] = true
good_outs symbols (out ∷ outs) = good_scopes symbols out.scopes && good_outs symbols outs

abbrev pub good_post : List SymPat → Post → Bool
good_post symbols post = good_outs symbols post.symbols && good_tail symbols post.scopes.tail

pub good_outs-append : (symbols : List SymPat) (outs more : List SymOut) → good_outs symbols outs ≡ true → good_outs symbols more ≡ true
    → good_outs symbols (outs ++ more) ≡ true
good_outs-append symbols [] more h k = k
good_outs-append symbols (out ∷ outs) more h k =
    and_both (good_scopes symbols out.scopes) (good_outs symbols (outs ++ more)) (and_first (good_scopes symbols out.scopes) (good_outs symbols outs) h)
    (good_outs-append symbols outs more (and_second (good_scopes symbols out.scopes) (good_outs symbols outs) h) k)

pub good_outs-drop : (symbols : List SymPat) (n : ℕ) (outs : List SymOut) → good_outs symbols outs ≡ true → good_outs symbols (drop n outs) ≡ true
good_outs-drop symbols zero outs h = h
good_outs-drop symbols (suc n) [] h = refl
good_outs-drop symbols (suc n) (out ∷ outs) h = good_outs-drop symbols n outs (and_second (good_scopes symbols out.scopes) (good_outs symbols outs) h)

-- no bad place is named exactly where all variables are good
nil_first : (xs ys : List ℕ) → xs ++ ys ≡ [] → xs ≡ []
nil_first [] ys h = refl
nil_first (x ∷ xs) ys h = cc

nil_second : (xs ys : List ℕ) → xs ++ ys ≡ [] → ys ≡ []
nil_second [] ys h = h
nil_second (x ∷ xs) ys h = cc

nil_both : (xs ys : List ℕ) → xs ≡ [] → ys ≡ [] → xs ++ ys ≡ []
nil_both xs ys h k = rw (h, k)

good_where : (b : Bool) (i : ℕ) → (if b then [] else i ∷ []) ≡ [] → b ≡ true
good_where true i h = refl
good_where false i h = cc

good-tail_of : (symbols : List SymPat) (tail : Tail) → bad_place symbols tail ≡ [] → good_tail symbols tail ≡ true
good-tail_of symbols Nil h = refl
good-tail_of symbols Front h = refl
good-tail_of symbols (Item i) h = good_where (has_scopes symbols i) i h

no_bad : (symbols : List SymPat) (tail : Tail) → good_tail symbols tail ≡ true → bad_place symbols tail ≡ []
no_bad symbols Nil h = refl
no_bad symbols Front h = refl
no_bad symbols (Item i) h = rw h

tails_in : Option ScopeOut → List Tail
tails_in scopes = option_map_or (λ (out : ScopeOut). out.tail ∷ []) scopes []

good-first : (symbols : List SymPat) (scopes : Option ScopeOut) (more last : List Tail)
    → flat_map (bad_place symbols) (tails_in scopes ++ more ++ last) ≡ []
    → (good_scopes symbols scopes ≡ true) × (flat_map (bad_place symbols) (more ++ last) ≡ [])
unfolding tails_in
good-first symbols None more last h = (refl, h)
good-first symbols (Some out) more last h = (
  good-tail_of symbols out.tail (nil_first (bad_place symbols out.tail) (flat_map (bad_place symbols) (more ++ last)) h),
  nil_second (bad_place symbols out.tail) (flat_map (bad_place symbols) (more ++ last)) h,
)

bad-first : (symbols : List SymPat) (scopes : Option ScopeOut) (more last : List Tail)
    → good_scopes symbols scopes ≡ true → flat_map (bad_place symbols) (more ++ last) ≡ []
    → flat_map (bad_place symbols) (tails_in scopes ++ more ++ last) ≡ []
unfolding tails_in
bad-first symbols None more last h k = k
bad-first symbols (Some out) more last h k =
    nil_both (bad_place symbols out.tail) (flat_map (bad_place symbols) (more ++ last)) (no_bad symbols out.tail h) k

good-tails : (symbols : List SymPat) (outs : List SymOut) (last : Tail)
    → flat_map (bad_place symbols) (flat_map tail_of outs ++ last ∷ []) ≡ []
    → (good_outs symbols outs && good_tail symbols last) ≡ true
unfolding tails_in
good-tails symbols [] last h = good-tail_of symbols last (nil_first (bad_place symbols last) [] h)
good-tails symbols (out ∷ outs) last h =
    let parts = good-first symbols out.scopes (flat_map tail_of outs) (last ∷ []) h in
    and_assoc (good_scopes symbols out.scopes) (good_outs symbols outs) (good_tail symbols last)
    ∙ and_both (good_scopes symbols out.scopes) (good_outs symbols outs && good_tail symbols last) parts.0 (good-tails symbols outs last parts.1)

bad-tails : (symbols : List SymPat) (outs : List SymOut) (last : Tail) → good_outs symbols outs ≡ true → good_tail symbols last ≡ true
    → flat_map (bad_place symbols) (flat_map tail_of outs ++ last ∷ []) ≡ []
unfolding tails_in
bad-tails symbols [] last h k = nil_both (bad_place symbols last) [] (no_bad symbols last k) refl
bad-tails symbols (out ∷ outs) last h k =
    bad-first symbols out.scopes (flat_map tail_of outs) (last ∷ []) (and_first (good_scopes symbols out.scopes) (good_outs symbols outs) h)
    (bad-tails symbols outs last (and_second (good_scopes symbols out.scopes) (good_outs symbols outs) h) k)

pub good_post-from : (pre : Pre) (post : Post) → bad_places pre post ≡ [] → good_post pre.symbols post ≡ true
good_post-from pre post h = good-tails pre.symbols post.symbols post.scopes.tail h

pub bad_places-none : (pre : Pre) (post : Post) → good_post pre.symbols post ≡ true → bad_places pre post ≡ []
bad_places-none pre post h =
    bad-tails pre.symbols post.symbols post.scopes.tail (and_first (good_outs pre.symbols post.symbols) (good_tail pre.symbols post.scopes.tail) h)
    (and_second (good_outs pre.symbols post.symbols) (good_tail pre.symbols post.scopes.tail) h)

-- good variables stay good where more symbols are asked for
has_scopes-append : (symbols more : List SymPat) (i : ℕ) → has_scopes symbols i ≡ true → has_scopes (symbols ++ more) i ≡ true
has_scopes-append [] more i h = cc
has_scopes-append (s ∷ symbols) more zero h = h
has_scopes-append (s ∷ symbols) more (suc i) h = has_scopes-append symbols more i h

pub good_tail-append : (symbols more : List SymPat) (tail : Tail) → good_tail symbols tail ≡ true → good_tail (symbols ++ more) tail ≡ true
good_tail-append symbols more Nil h = refl
good_tail-append symbols more Front h = refl
good_tail-append symbols more (Item i) h = has_scopes-append symbols more i h

good_scopes-append : (symbols more : List SymPat) (scopes : Option ScopeOut) → good_scopes symbols scopes ≡ true → good_scopes (symbols ++ more) scopes ≡ true
good_scopes-append symbols more None h = refl
good_scopes-append symbols more (Some out) h = good_tail-append symbols more out.tail h

pub good_outs-more : (symbols more : List SymPat) (outs : List SymOut) → good_outs symbols outs ≡ true → good_outs (symbols ++ more) outs ≡ true
good_outs-more symbols more [] h = refl
good_outs-more symbols more (out ∷ outs) h =
    and_both (good_scopes (symbols ++ more) out.scopes) (good_outs (symbols ++ more) outs)
    (good_scopes-append symbols more out.scopes (and_first (good_scopes symbols out.scopes) (good_outs symbols outs) h))
    (good_outs-more symbols more outs (and_second (good_scopes symbols out.scopes) (good_outs symbols outs) h))

pub has_scopes-within : (symbols : List SymPat) (i : ℕ) → has_scopes symbols i ≡ true → i < length symbols
has_scopes-within [] i h = cc
has_scopes-within (s ∷ symbols) zero h = omega arith
has_scopes-within (s ∷ symbols) (suc i) h = let k : i < length symbols = has_scopes-within symbols i h in omega arith
