-- What the second path's variables stand for, put into its outputs, makes what the second path makes.
use Rattle.std.proofs.Common.{◌≡◌, ℕ, zero, suc, List, [], ◌∷◌, ◌++◌, length, map, drop, true, Option, Some, None, slice_get, refl, sym, ap, ◌∙◌, append_assoc, option_map}
use Rattle.std.specs.Option.{option_map_or}
use Rattle.std.specs.Str.{bytes_eq}
use Rattle.std.proofs.lemmas.List.{drop-append-le}
use Rattle.stacks_vars.specs.declared.scopes.NodeAt.{NodeAt}
use Rattle.stacks_vars.specs.declared.patterns.ScopePat.{ScopePat}
use Rattle.stacks_vars.specs.declared.patterns.SymPat.{SymPat}
use Rattle.stacks_vars.specs.declared.patterns.Tail.{Tail}
use Rattle.stacks_vars.specs.declared.patterns.Tail.TheVariants.{Nil, Front, Item}
use Rattle.stacks_vars.specs.declared.patterns.ScopeOut.{ScopeOut}
use Rattle.stacks_vars.specs.declared.patterns.SymOut.{SymOut}
use Rattle.stacks_vars.specs.Enter.{item_of}
use Rattle.partial_path.specs.Apply.{Rests, rests_of, tail_scopes, fill_scopes, fill_item}
use Rattle.path_join.specs.Joining.{Bound, bound_tail, bound_items, put_scopes, put_symbol, grown_scopes, grown_symbol, rest_past, no_scopes}
use Rattle.path_join.proofs.AndLaws.{and_first, and_second}
use Rattle.path_join.proofs.BeginsLaws.{begins, begins_length}
use Rattle.path_join.proofs.FitsLaws.{same_cons, fits, beyond}
use Rattle.path_join.proofs.MeetsLaws.{meets_attached, rest_attached, meets_item, meets_items, rest_items}
use Rattle.path_join.proofs.KnownLaws.{fill_scopes-beyond}

-- what the second path's variables stand for where those of the first do so
abbrev pub rests_by : Bound → Rests → Rests
rests_by bound rests = rests_of (fill_scopes rests bound.front) (map (fill_scopes rests) bound.items)

put-item : (rests : Rests) (outs : List ScopeOut) (i : ℕ)
    → option_map_or (λ (scopes : List NodeAt). scopes) (slice_get (map (fill_scopes rests) outs) i) []
    ≡ fill_scopes rests (option_map_or (λ (out : ScopeOut). out) (slice_get outs i) no_scopes)
put-item rests [] i = refl
put-item rests (out ∷ outs) zero = refl
put-item rests (out ∷ outs) (suc i) = put-item rests outs i

put-tail : (bound : Bound) (rests : Rests) (tail : Tail) → tail_scopes (rests_by bound rests) tail ≡ fill_scopes rests (bound_tail bound tail)
put-tail bound rests Nil = refl
put-tail bound rests Front = refl
put-tail bound rests (Item i) = put-item rests bound.items i

pub put-scopes : (bound : Bound) (rests : Rests) (out : ScopeOut) → fill_scopes rests (put_scopes bound out) ≡ fill_scopes (rests_by bound rests) out
put-scopes bound rests out =
    append_assoc out.scopes (bound_tail bound out.tail).scopes (tail_scopes rests (bound_tail bound out.tail).tail)
    ∙ ap (λ (scopes : List NodeAt). out.scopes ++ scopes) (sym (put-tail bound rests out.tail))

put-attached : (bound : Bound) (rests : Rests) (out : Option ScopeOut)
    → option_map (fill_scopes rests) (option_map (put_scopes bound) out) ≡ option_map (fill_scopes (rests_by bound rests)) out
put-attached bound rests None = refl
put-attached bound rests (Some out) = ap Some (put-scopes bound rests out)

pub put-symbols : (bound : Bound) (rests : Rests) (outs : List SymOut)
    → map (fill_item rests) (map (put_symbol bound) outs) ≡ map (fill_item (rests_by bound rests)) outs
put-symbols bound rests [] = refl
put-symbols bound rests (out ∷ outs) =
    same_cons _ _ _ _ (ap (item_of out.symbol) (put-attached bound rests out.scopes)) (put-symbols bound rests outs)

-- outputs of the first path with what is known of their variables
grown-attached : (known rests : Rests) (out : Option ScopeOut) → fits known rests ≡ true
    → option_map (fill_scopes (beyond known rests)) (option_map (grown_scopes known) out) ≡ option_map (fill_scopes rests) out
grown-attached known rests None h = refl
grown-attached known rests (Some out) h = ap Some (sym (fill_scopes-beyond known rests out h))

pub grown-symbols : (known rests : Rests) (outs : List SymOut) → fits known rests ≡ true
    → map (fill_item (beyond known rests)) (map (grown_symbol known) outs) ≡ map (fill_item rests) outs
grown-symbols known rests [] h = refl
grown-symbols known rests (out ∷ outs) h =
    same_cons _ _ _ _ (ap (item_of out.symbol) (grown-attached known rests out.scopes h)) (grown-symbols known rests outs h)

-- what is left of an output past fixed scopes that it is known to begin with
pub bound-scopes : (known rests : Rests) (fixed : List NodeAt) (out : ScopeOut) → fits known rests ≡ true
    → begins fixed (fill_scopes known out) ≡ true
    → drop (length fixed) (fill_scopes rests out) ≡ fill_scopes (beyond known rests) (rest_past (length fixed) (grown_scopes known out))
bound-scopes known rests fixed out h k =
    ap (drop (length fixed)) (fill_scopes-beyond known rests out h)
    ∙ drop-append-le (length fixed) (fill_scopes known out) (tail_scopes (beyond known rests) out.tail) (begins_length fixed (fill_scopes known out) k)

bound_attached : Rests → Option ScopePat → Option ScopeOut → ScopeOut
bound_attached known pat out =
    option_map_or (λ (s : ScopePat). option_map_or (λ (o : ScopeOut). rest_past (length s.fixed) (grown_scopes known o)) out no_scopes) pat no_scopes

bound-attached : (known rests : Rests) (pat : Option ScopePat) (out : Option ScopeOut) → fits known rests ≡ true
    → meets_attached pat (option_map (fill_scopes known) out) ≡ true
    → rest_attached pat (option_map (fill_scopes rests) out) ≡ fill_scopes (beyond known rests) (bound_attached known pat out)
unfolding bound_attached
bound-attached known rests None out h k = refl
bound-attached known rests (Some pat) None h k = cc
bound-attached known rests (Some pat) (Some out) h k = bound-scopes known rests pat.fixed out h k

pub bound-items : (known rests : Rests) (pats : List SymPat) (outs : List SymOut) → fits known rests ≡ true
    → meets_items pats (map (fill_item known) outs) ≡ true
    → rest_items pats (map (fill_item rests) outs) ≡ map (fill_scopes (beyond known rests)) (bound_items known pats outs)
unfolding bound_attached
bound-items known rests [] outs h k = refl
bound-items known rests (pat ∷ pats) [] h k = refl
bound-items known rests (pat ∷ pats) (out ∷ outs) h k =
    same_cons _ _ _ _
    (bound-attached known rests pat.scopes out.scopes h
    (and_second (bytes_eq pat.symbol out.symbol) (meets_attached pat.scopes (option_map (fill_scopes known) out.scopes))
    (and_first (meets_item pat (fill_item known out)) (meets_items pats (map (fill_item known) outs)) k)))
    (bound-items known rests pats outs h (and_second (meets_item pat (fill_item known out)) (meets_items pats (map (fill_item known) outs)) k))
