-- The joined path is a rule: it names good variables alone, and its peak is high enough.
use Rattle.std.proofs.Common.{◌≡◌, ◌≤◌, ◌+◌, ◌-◌, ℕ, zero, suc, List, [], ◌∷◌, ◌++◌, length, map, drop, max, Bool, true, ◌&&◌, Option, Some, None, slice_get, refl, ap, ◌∙◌, arith, length-append, length-drop, option_map}
use Rattle.std.specs.Option.{option_map_or}
use Rattle.std.proofs.lemmas.List.{length-map}
use Rattle.stacks_vars.specs.declared.scopes.NodeAt.{NodeAt}
use Rattle.stacks_vars.specs.declared.patterns.ScopePat.{ScopePat}
use Rattle.stacks_vars.specs.declared.patterns.SymPat.{SymPat}
use Rattle.stacks_vars.specs.declared.patterns.Tail.{Tail}
use Rattle.stacks_vars.specs.declared.patterns.Tail.TheVariants.{Nil, Front, Item}
use Rattle.stacks_vars.specs.declared.patterns.ScopeOut.{ScopeOut}
use Rattle.stacks_vars.specs.declared.patterns.SymOut.{SymOut}
use Rattle.partial_path.specs.Rules.{Rule, IsRule}
use Rattle.partial_path.specs.Apply.{Rests}
use Rattle.path_join.specs.Joining.{Bound, bound_by, bound_tail, bound_item, bound_items, known_with, wide_pre, wide_post, longer_symbols, put_symbol, put_scopes, grown_symbol, grown_scopes, rest_past, no_scopes}
use Rattle.path_join.proofs.AndLaws.{and_both, and_first, and_second}
use Rattle.path_join.proofs.GoodLaws.{good_tail, good_scopes, good_outs, good_post, good_outs-append, good_outs-drop, bad_places-none}
use Rattle.path_join.proofs.SuitsLaws.{Suits}
use Rattle.path_join.proofs.KeptLaws.{suits-known}
use Rattle.path_join.proofs.LongerLaws.{good_tail-longer, length-longer}
use Rattle.path_join.proofs.WidenedLaws.{good-wide_post, good-wide_tail}
use Rattle.path_join.proofs.LengthsLaws.{length-wide_pre, length-wide_post}
use Rattle.path_join.proofs.AppliesLaws.{the_join}

-- What the second path's variables stand for names good variables.

-- whether each names a good one
abbrev good_list : List SymPat → List ScopeOut → Bool
good_list symbols [] = true
good_list symbols (out ∷ outs) = good_tail symbols out.tail && good_list symbols outs

good-bound : (symbols : List SymPat) (known : Rests) (pat : Option ScopePat) (out : Option ScopeOut) → good_scopes symbols out ≡ true
    → good_tail symbols (option_map_or (λ (s : ScopePat). option_map_or (λ (o : ScopeOut). rest_past (length s.fixed) (grown_scopes known o)) out no_scopes) pat no_scopes).tail ≡ true
good-bound symbols known None out h = refl
good-bound symbols known (Some pat) None h = refl
good-bound symbols known (Some pat) (Some out) h = h

good-bound_items : (symbols : List SymPat) (known : Rests) (pats : List SymPat) (outs : List SymOut) → good_outs symbols outs ≡ true
    → good_list symbols (bound_items known pats outs) ≡ true
good-bound_items symbols known [] outs h = refl
good-bound_items symbols known (pat ∷ pats) [] h = refl
good-bound_items symbols known (pat ∷ pats) (out ∷ outs) h =
    and_both (good_tail symbols (bound_item known pat out).tail) (good_list symbols (bound_items known pats outs))
    (good-bound symbols known pat.scopes out.scopes (and_first (good_scopes symbols out.scopes) (good_outs symbols outs) h))
    (good-bound_items symbols known pats outs (and_second (good_scopes symbols out.scopes) (good_outs symbols outs) h))

good-at : (symbols : List SymPat) (outs : List ScopeOut) (i : ℕ) → good_list symbols outs ≡ true
    → good_tail symbols (option_map_or (λ (out : ScopeOut). out) (slice_get outs i) no_scopes).tail ≡ true
good-at symbols [] i h = refl
good-at symbols (out ∷ outs) zero h = and_first (good_tail symbols out.tail) (good_list symbols outs) h
good-at symbols (out ∷ outs) (suc i) h = good-at symbols outs i (and_second (good_tail symbols out.tail) (good_list symbols outs) h)

-- what a variable stands for where the scope stack's and the symbols' name good variables
good-bound_tail : (symbols : List SymPat) (bound : Bound) (tail : Tail) → good_tail symbols bound.front.tail ≡ true
    → good_list symbols bound.items ≡ true → good_tail symbols (bound_tail bound tail).tail ≡ true
good-bound_tail symbols bound Nil h k = refl
good-bound_tail symbols bound Front h k = h
good-bound_tail symbols bound (Item i) h k = good-at symbols bound.items i k

good-put : (symbols : List SymPat) (bound : Bound) (out : Option ScopeOut) → good_tail symbols bound.front.tail ≡ true
    → good_list symbols bound.items ≡ true → good_scopes symbols (option_map (put_scopes bound) out) ≡ true
good-put symbols bound None h k = refl
good-put symbols bound (Some out) h k = good-bound_tail symbols bound out.tail h k

good-put_symbols : (symbols : List SymPat) (bound : Bound) (outs : List SymOut) → good_tail symbols bound.front.tail ≡ true
    → good_list symbols bound.items ≡ true → good_outs symbols (map (put_symbol bound) outs) ≡ true
good-put_symbols symbols bound [] h k = refl
good-put_symbols symbols bound (out ∷ outs) h k =
    and_both (good_scopes symbols (option_map (put_scopes bound) out.scopes)) (good_outs symbols (map (put_symbol bound) outs))
    (good-put symbols bound out.scopes h k) (good-put_symbols symbols bound outs h k)

good-grown : (symbols : List SymPat) (known : Rests) (out : Option ScopeOut) → good_scopes symbols out ≡ true
    → good_scopes symbols (option_map (grown_scopes known) out) ≡ true
good-grown symbols known None h = refl
good-grown symbols known (Some out) h = h

good-grown_symbols : (symbols : List SymPat) (known : Rests) (outs : List SymOut) → good_outs symbols outs ≡ true
    → good_outs symbols (map (grown_symbol known) outs) ≡ true
good-grown_symbols symbols known [] h = refl
good-grown_symbols symbols known (out ∷ outs) h =
    and_both (good_scopes symbols (option_map (grown_scopes known) out.scopes)) (good_outs symbols (map (grown_symbol known) outs))
    (good-grown symbols known out.scopes (and_first (good_scopes symbols out.scopes) (good_outs symbols outs) h))
    (good-grown_symbols symbols known outs (and_second (good_scopes symbols out.scopes) (good_outs symbols outs) h))

-- good variables stay good where more scopes are asked for
good_scopes-longer : (symbols : List SymPat) (known : List (List NodeAt)) (out : Option ScopeOut) → Suits symbols known
    → good_scopes symbols out ≡ true → good_scopes (longer_symbols symbols known) out ≡ true
good_scopes-longer symbols known None h good = refl
good_scopes-longer symbols known (Some out) h good = good_tail-longer symbols known out.tail h good

good_outs-longer : (symbols : List SymPat) (known : List (List NodeAt)) (outs : List SymOut) → Suits symbols known
    → good_outs symbols outs ≡ true → good_outs (longer_symbols symbols known) outs ≡ true
good_outs-longer symbols known [] h good = refl
good_outs-longer symbols known (out ∷ outs) h good =
    and_both (good_scopes (longer_symbols symbols known) out.scopes) (good_outs (longer_symbols symbols known) outs)
    (good_scopes-longer symbols known out.scopes h (and_first (good_scopes symbols out.scopes) (good_outs symbols outs) good))
    (good_outs-longer symbols known outs h (and_second (good_scopes symbols out.scopes) (good_outs symbols outs) good))

pub good-joined : (p q : Rule) (asked : List NodeAt) (known : Rests) → good_post p.pre.symbols p.post ≡ true → known_with p q asked ≡ Some known
    → good_post (the_join p q asked known).pre.symbols (the_join p q asked known).post ≡ true
good-joined p q asked known good is =
    let symbols : List SymPat = wide_pre p q in
    let bound : Bound = bound_by p q asked known in
    let rest : List SymOut = map (grown_symbol known) (drop (length q.pre.symbols) (wide_post p q)) in
    let suits = suits-known p q asked known (good-wide_post p q good) (good-wide_tail p q good) is in
    let front : good_tail symbols bound.front.tail ≡ true = good-wide_tail p q good in
    let items : good_list symbols bound.items ≡ true = good-bound_items symbols known q.pre.symbols (wide_post p q) (good-wide_post p q good) in
    and_both (good_outs (longer_symbols symbols known.items) (map (put_symbol bound) q.post.symbols ++ rest))
    (good_tail (longer_symbols symbols known.items) (put_scopes bound q.post.scopes).tail)
    (good_outs-longer symbols known.items (map (put_symbol bound) q.post.symbols ++ rest) suits
    (good_outs-append symbols (map (put_symbol bound) q.post.symbols) rest (good-put_symbols symbols bound q.post.symbols front items)
    (good-grown_symbols symbols known (drop (length q.pre.symbols) (wide_post p q))
    (good_outs-drop symbols (length q.pre.symbols) (wide_post p q) (good-wide_post p q good)))))
    (good_tail-longer symbols known.items (put_scopes bound q.post.scopes).tail suits (good-bound_tail symbols bound q.post.scopes.tail front items))

-- The peak.

-- a and b are how many symbols the first path asks for and makes, e and f the same of the second
peaks : (peak other a b e f : ℕ) → max a b ≤ peak → max e f ≤ other
    → max (a + (e - b)) (f + ((b + (e - b)) - e)) ≤ max (peak + (e - b)) (other + (b - e))
peaks peak other a b e f h k = omega arith

joined-made : (p q : Rule) (asked : List NodeAt) (known : Rests)
    → length (the_join p q asked known).post.symbols ≡ length q.post.symbols + ((length p.post.symbols + (length q.pre.symbols - length p.post.symbols)) - length q.pre.symbols)
joined-made p q asked known =
    let bound : Bound = bound_by p q asked known in
    let rest : List SymOut = drop (length q.pre.symbols) (wide_post p q) in
    length-append (map (put_symbol bound) q.post.symbols) (map (grown_symbol known) rest)
    ∙ ap (λ (n : ℕ). n + length (map (grown_symbol known) rest)) (length-map q.post.symbols (put_symbol bound))
    ∙ ap (λ (n : ℕ). length q.post.symbols + n)
    (length-map rest (grown_symbol known) ∙ length-drop (length q.pre.symbols) (wide_post p q) ∙ ap (λ (n : ℕ). n - length q.pre.symbols) (length-wide_post p q))

pub joined-ruled : (p q : Rule) (asked : List NodeAt) (known : Rests) → IsRule p → IsRule q → good_post p.pre.symbols p.post ≡ true
    → known_with p q asked ≡ Some known → IsRule (the_join p q asked known)
joined-ruled p q asked known first other good is =
    let suits = suits-known p q asked known (good-wide_post p q good) (good-wide_tail p q good) is in
    let asks : length (the_join p q asked known).pre.symbols ≡ length p.pre.symbols + (length q.pre.symbols - length p.post.symbols) =
    length-longer (wide_pre p q) known.items suits ∙ length-wide_pre p q in
    let makes = joined-made p q asked known in
    let top = peaks p.peak q.peak (length p.pre.symbols) (length p.post.symbols) (length q.pre.symbols) (length q.post.symbols) first.peak other.peak in
    record { tails = bad_places-none (the_join p q asked known).pre (the_join p q asked known).post (good-joined p q asked known good is); peak = rw (asks, makes) top }
