-- What the second path's variables stand for, place by place.
use Rattle.std.proofs.Common.{◌≡◌, refl, ap, ◌∙◌, sym, ℕ, zero, suc, ◌-◌, ◌+◌, List, [], ◌∷◌, ◌++◌, length, drop, Option, Some, None, slice_get, arith}
use Rattle.std.specs.Option.{option_map_or, option_map}
use Rattle.std.proofs.lemmas.List.{drop_at}
use Rattle.stacks_vars.specs.declared.scopes.NodeAt.{NodeAt}
use Rattle.stacks_vars.specs.declared.patterns.ScopePat.{ScopePat}
use Rattle.stacks_vars.specs.declared.patterns.SymPat.{SymPat}
use Rattle.stacks_vars.specs.declared.patterns.SymOut.{SymOut}
use Rattle.stacks_vars.specs.declared.patterns.ScopeOut.{ScopeOut}
use Rattle.stacks_vars.specs.declared.patterns.Tail.TheVariants.{Item}
use Rattle.partial_path.specs.Apply.{Rests, tail_scopes}
use Rattle.path_join.specs.Joining.{handed, handed_symbol, handed_scopes, asked_symbols, wide_post, rest_past, grown_scopes, no_scopes, bound_item, bound_items, bound_tail}
use Rattle.path_join.specs.Tables.{Meeting, bound_of, handed_rest, handed_place}

-- a list of two parts without its first elements
drop-none : {X : Type 0} (n : ℕ) (ys : List X) → drop (0 - n) ys ≡ ys
drop-none n ys = let e : 0 - n ≡ 0 = omega arith in ap (λ m. drop m ys) e

less_one : (n m : ℕ) → suc n - suc m ≡ n - m
less_one n m = omega arith

pub drop-parts : {X : Type 0} (n : ℕ) (xs ys : List X) → drop n (xs ++ ys) ≡ drop n xs ++ drop (n - length xs) ys
drop-parts zero xs ys = ap (λ zs. xs ++ zs) (sym (drop-none (length xs) ys))
drop-parts (suc n) [] ys = let e : suc n ≡ suc n - 0 = omega arith in ap (λ m. drop m ys) e
drop-parts (suc n) (x ∷ xs) ys = drop-parts n xs ys ∙ ap (λ m. drop n xs ++ drop m ys) (sym (less_one n (length xs)))

pub rest_past-parts : (n : ℕ) (known : Rests) (out : ScopeOut)
    → rest_past n (grown_scopes known out) ≡ record { scopes = drop n out.scopes ++ drop (n - length out.scopes) (tail_scopes known out.tail); tail = out.tail }
rest_past-parts n known out =
    let there : List NodeAt → ScopeOut = λ (scopes : List NodeAt). record { scopes = scopes; tail = out.tail } in
    ap there (drop-parts n out.scopes (tail_scopes known out.tail))

pub ruleset rests = (rest_past-parts)

-- the first so many symbols are those that the first path makes, the others are handed on
wide-made : (outs more : List SymOut) (i : ℕ) (out : SymOut) → slice_get outs i ≡ Some out → slice_get (outs ++ more) i ≡ Some out
wide-made [] more i out e = cc
wide-made (o ∷ outs) more zero out e = e
wide-made (o ∷ outs) more (suc i) out e = wide-made outs more i out e

wide-handed : (n : ℕ) (pats : List SymPat) (i : ℕ) → slice_get (handed n pats) i ≡ option_map (handed_symbol (n + i)) (slice_get pats i)
wide-handed n [] i = refl
wide-handed n (pat ∷ pats) zero = let e : n ≡ n + 0 = omega arith in ap (λ m. Some (handed_symbol m pat)) e
wide-handed n (pat ∷ pats) (suc i) =
    let e : suc n + i ≡ n + suc i = omega arith in
    wide-handed (suc n) pats i ∙ ap (λ m. option_map (handed_symbol m) (slice_get pats i)) e

wide-past : (n : ℕ) (outs : List SymOut) (pats : List SymPat) (i : ℕ) (pat : SymPat) → slice_get outs i ≡ None → slice_get pats i ≡ Some pat
    → slice_get (outs ++ handed n (drop (length outs) pats)) i ≡ Some (handed_symbol (n + (i - length outs)) pat)
wide-past n [] pats i pat none some =
    let e : n + i ≡ n + (i - 0) = omega arith in
    wide-handed n pats i ∙ ap (option_map (handed_symbol (n + i))) some ∙ ap (λ m. Some (handed_symbol m pat)) e
wide-past n (out ∷ outs) [] i pat none some = cc
wide-past n (out ∷ outs) (p ∷ pats) zero pat none some = cc
wide-past n (out ∷ outs) (p ∷ pats) (suc i) pat none some =
    wide-past n outs pats i pat none some ∙ ap (λ m. Some (handed_symbol (n + m) pat)) (sym (less_one i (length outs)))

-- what stands at a place
at_place : (known : Rests) (pats : List SymPat) (outs : List SymOut) (i : ℕ) (pat : SymPat) (out : SymOut) → slice_get pats i ≡ Some pat → slice_get outs i ≡ Some out
    → slice_get (bound_items known pats outs) i ≡ Some (bound_item known pat out)
at_place known [] outs i pat out p o = cc
at_place known (a ∷ pats) [] i pat out p o = cc
at_place known (a ∷ pats) (b ∷ outs) zero pat out p o =
    let e : a ≡ pat = cc in let f : b ≡ out = cc in ap (λ x. Some (bound_item known x b)) e ∙ ap (λ x. Some (bound_item known pat x)) f
at_place known (a ∷ pats) (b ∷ outs) (suc i) pat out p o = at_place known pats outs i pat out p o

at_none : (known : Rests) (pats : List SymPat) (outs : List SymOut) (i : ℕ) → slice_get pats i ≡ None → slice_get (bound_items known pats outs) i ≡ None
at_none known [] outs i p = refl
at_none known (a ∷ pats) [] i p = refl
at_none known (a ∷ pats) (b ∷ outs) zero p = cc
at_none known (a ∷ pats) (b ∷ outs) (suc i) p = at_none known pats outs i p

-- a plain symbol's variable stands for nothing, whatever stands there
at_plain : (known : Rests) (pats : List SymPat) (outs : List SymOut) (i : ℕ) (pat : SymPat) → slice_get pats i ≡ Some pat → pat.scopes ≡ None
    → option_map_or (λ (out : ScopeOut). out) (slice_get (bound_items known pats outs) i) no_scopes ≡ no_scopes
at_plain known [] outs i pat p plain = refl
at_plain known (a ∷ pats) [] i pat p plain = refl
at_plain known (a ∷ pats) (b ∷ outs) zero pat p plain =
    let e : a ≡ pat = cc in
    ap (λ x. bound_item known x b) e
    ∙ ap (λ scopes. option_map_or (λ (s : ScopePat). option_map_or (λ (o : ScopeOut). rest_past (length s.fixed) (grown_scopes known o)) b.scopes no_scopes) scopes no_scopes) plain
at_plain known (a ∷ pats) (b ∷ outs) (suc i) pat p plain = at_plain known pats outs i pat p plain

bound_item-both : (known : Rests) (pat : SymPat) (out : SymOut) (s : ScopePat) → pat.scopes ≡ Some s
    → bound_item known pat out ≡ option_map_or (λ (o : ScopeOut). rest_past (length s.fixed) (grown_scopes known o)) out.scopes no_scopes
bound_item-both known pat out s e =
    ap (λ scopes. option_map_or (λ (s : ScopePat). option_map_or (λ (o : ScopeOut). rest_past (length s.fixed) (grown_scopes known o)) out.scopes no_scopes) scopes no_scopes) e

or_none : Option ScopeOut → ScopeOut
or_none o = option_map_or (λ (out : ScopeOut). out) o no_scopes

pub bound-none : (m : Meeting) (i : ℕ) → None ≡ slice_get m.second.pre.symbols i → bound_tail (bound_of m) (Item i) ≡ no_scopes
unfolding or_none
bound-none m i none = ap or_none (at_none m.known m.second.pre.symbols (wide_post m.first m.second) i (sym none))

pub bound-plain : (m : Meeting) (i : ℕ) (pat : SymPat) → Some pat ≡ slice_get m.second.pre.symbols i → pat.scopes ≡ None → bound_tail (bound_of m) (Item i) ≡ no_scopes
bound-plain m i pat some plain = at_plain m.known m.second.pre.symbols (wide_post m.first m.second) i pat (sym some) plain

bound-out : (m : Meeting) (i : ℕ) (pat : SymPat) (out : SymOut) (s : ScopePat) → Some pat ≡ slice_get m.second.pre.symbols i → pat.scopes ≡ Some s
    → slice_get (wide_post m.first m.second) i ≡ Some out
    → bound_tail (bound_of m) (Item i) ≡ option_map_or (λ (o : ScopeOut). rest_past (length s.fixed) (grown_scopes m.known o)) out.scopes no_scopes
unfolding or_none
bound-out m i pat out s p e o =
    ap or_none (at_place m.known m.second.pre.symbols (wide_post m.first m.second) i pat out (sym p) o) ∙ bound_item-both m.known pat out s e

pub bound-made : (m : Meeting) (i : ℕ) (pat : SymPat) (out : SymOut) (s : ScopePat) (o : ScopeOut) → Some pat ≡ slice_get m.second.pre.symbols i → pat.scopes ≡ Some s
    → Some out ≡ slice_get m.first.post.symbols i → out.scopes ≡ Some o → bound_tail (bound_of m) (Item i) ≡ rest_past (length s.fixed) (grown_scopes m.known o)
bound-made m i pat out s o p e made f =
    bound-out m i pat out s p e (wide-made m.first.post.symbols (handed (length m.first.pre.symbols) (asked_symbols m.first m.second)) i out (sym made))
    ∙ ap (λ x. option_map_or (λ (o : ScopeOut). rest_past (length s.fixed) (grown_scopes m.known o)) x no_scopes) f

pub bound-made_plain : (m : Meeting) (i : ℕ) (pat : SymPat) (out : SymOut) (s : ScopePat) → Some pat ≡ slice_get m.second.pre.symbols i → pat.scopes ≡ Some s
    → Some out ≡ slice_get m.first.post.symbols i → out.scopes ≡ None → bound_tail (bound_of m) (Item i) ≡ no_scopes
bound-made_plain m i pat out s p e made f =
    bound-out m i pat out s p e (wide-made m.first.post.symbols (handed (length m.first.pre.symbols) (asked_symbols m.first m.second)) i out (sym made))
    ∙ ap (λ x. option_map_or (λ (o : ScopeOut). rest_past (length s.fixed) (grown_scopes m.known o)) x no_scopes) f

-- a symbol that is handed on has its own variable, with what is known of it
handed-rest : (known : Rests) (place : ℕ) (pat : SymPat) (s : ScopePat) → pat.scopes ≡ Some s
    → option_map_or (λ (o : ScopeOut). rest_past (length s.fixed) (grown_scopes known o)) (handed_symbol place pat).scopes no_scopes
    ≡ record { scopes = tail_scopes known (Item place); tail = Item place }
handed-rest known place pat s e =
    let there : List NodeAt → ScopeOut = λ (scopes : List NodeAt). record { scopes = scopes; tail = Item place } in
    ap (λ x. option_map_or (λ (o : ScopeOut). rest_past (length s.fixed) (grown_scopes known o)) (option_map (handed_scopes place) x) no_scopes) e
    ∙ ap there (drop_at s.fixed (tail_scopes known (Item place)) (length s.fixed) refl)

pub bound-handed : (m : Meeting) (i : ℕ) (pat : SymPat) (s : ScopePat) → Some pat ≡ slice_get m.second.pre.symbols i → pat.scopes ≡ Some s
    → None ≡ slice_get m.first.post.symbols i → bound_tail (bound_of m) (Item i) ≡ handed_rest m (handed_place m i)
bound-handed m i pat s p e none =
    bound-out m i pat (handed_symbol (handed_place m i) pat) s p e
    (wide-past (length m.first.pre.symbols) m.first.post.symbols m.second.pre.symbols i pat (sym none) (sym p))
    ∙ handed-rest m.known (handed_place m i) pat s e

pub ruleset bounds = (bound-none, bound-plain, bound-made, bound-made_plain, bound-handed)
