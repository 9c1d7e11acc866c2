-- A path that asks for the symbols that the next one wants besides, and hands them on, does the same.
use Rattle.std.proofs.Common.{◌≡◌, ◌<◌, ℕ, zero, suc, List, [], ◌∷◌, ◌++◌, length, map, take, true, Option, Some, None, refl, sym, ap, ◌∙◌, arith, append_assoc, length-append, option_map}
use Rattle.std.specs.Str.{bytes_eq}
use Rattle.std.proofs.lemmas.Slice.Eq.{bytes_eq-Decides}
use Rattle.stacks_vars.specs.declared.scopes.NodeAt.{NodeAt}
use Rattle.stacks_vars.specs.declared.items.SymbolItem.{SymbolItem}
use Rattle.stacks_vars.specs.declared.patterns.ScopePat.{ScopePat}
use Rattle.stacks_vars.specs.declared.patterns.SymPat.{SymPat}
use Rattle.stacks_vars.specs.declared.patterns.Tail.{Tail}
use Rattle.stacks_vars.specs.declared.patterns.Tail.TheVariants.{Nil, Front, Item}
use Rattle.stacks_vars.specs.declared.patterns.ScopeOut.{ScopeOut}
use Rattle.stacks_vars.specs.declared.patterns.SymOut.{SymOut}
use Rattle.stacks_vars.specs.Enter.{item_of}
use Rattle.partial_path.specs.Apply.{Rests, tail_scopes, fill_scopes, fill_item}
use Rattle.path_join.specs.Joining.{handed_scopes, handed_symbol, handed}
use Rattle.path_join.proofs.AndLaws.{and_first, and_second}
use Rattle.path_join.proofs.BeginsLaws.{begins_is}
use Rattle.path_join.proofs.FitsLaws.{same_cons, list_at}
use Rattle.path_join.proofs.MeetsLaws.{meets_attached, rest_attached, meets_item, rest_item, meets_items, rest_items}
use Rattle.path_join.proofs.GoodLaws.{good_tail, good_scopes, good_outs, has_scopes-within}

pub list_at-here : (before : List (List NodeAt)) (here : List NodeAt) (after : List (List NodeAt)) (k : ℕ) → length before ≡ k
    → list_at (before ++ here ∷ after) k ≡ here
list_at-here [] here after zero h = refl
list_at-here [] here after (suc k) h = absurd (omega arith)
list_at-here (l ∷ before) here after zero h = absurd (omega arith)
list_at-here (l ∷ before) here after (suc k) h = list_at-here before here after k (omega arith)

pub list_at-before : (before after : List (List NodeAt)) (i : ℕ) → i < length before → list_at (before ++ after) i ≡ list_at before i
list_at-before [] after i h = absurd (omega arith)
list_at-before (l ∷ before) after zero h = refl
list_at-before (l ∷ before) after (suc i) h = list_at-before before after i (omega arith)

-- a symbol that is met is what is handed on
handed-attached : (rests : Rests) (k : ℕ) (pat : Option ScopePat) (scopes : Option (List NodeAt)) → meets_attached pat scopes ≡ true
    → list_at rests.items k ≡ rest_attached pat scopes → option_map (fill_scopes rests) (option_map (handed_scopes k) pat) ≡ scopes
handed-attached rests k None None h is = refl
handed-attached rests k None (Some scopes) h is = cc
handed-attached rests k (Some pat) None h is = cc
handed-attached rests k (Some pat) (Some scopes) h is =
    ap Some (ap (λ (rest : List NodeAt). pat.fixed ++ rest) is ∙ sym (begins_is pat.fixed scopes h))

same_item : (symbol : List ℕ) (scopes : Option (List NodeAt)) (item : SymbolItem) → symbol ≡ item.symbol → scopes ≡ item.scopes → item_of symbol scopes ≡ item
same_item symbol scopes item h k = λ i. record { symbol = h i; scopes = k i }

handed-item : (rests : Rests) (k : ℕ) (pat : SymPat) (item : SymbolItem) → meets_item pat item ≡ true
    → list_at rests.items k ≡ rest_item pat item → fill_item rests (handed_symbol k pat) ≡ item
handed-item rests k pat item h is =
    same_item pat.symbol (option_map (fill_scopes rests) (option_map (handed_scopes k) pat.scopes)) item
    ((bytes_eq-Decides pat.symbol item.symbol).0 (and_first (bytes_eq pat.symbol item.symbol) (meets_attached pat.scopes item.scopes) h))
    (handed-attached rests k pat.scopes item.scopes (and_second (bytes_eq pat.symbol item.symbol) (meets_attached pat.scopes item.scopes) h) is)

pub handed-fill : (rests : Rests) (before : List (List NodeAt)) (k : ℕ) (pats : List SymPat) (items : List SymbolItem)
    → rests.items ≡ before ++ rest_items pats items → length before ≡ k → meets_items pats items ≡ true
    → map (fill_item rests) (handed k pats) ≡ take (length pats) items
handed-fill rests before k [] items is at_k h = refl
handed-fill rests before k (pat ∷ pats) [] is at_k h = cc
handed-fill rests before k (pat ∷ pats) (item ∷ items) is at_k h =
    same_cons (fill_item rests (handed_symbol k pat)) item (map (fill_item rests) (handed (suc k) pats)) (take (length pats) items)
    (handed-item rests k pat item (and_first (meets_item pat item) (meets_items pats items) h)
    (ap (λ (lists : List (List NodeAt)). list_at lists k) is ∙ list_at-here before (rest_item pat item) (rest_items pats items) k at_k))
    (handed-fill rests (before ++ rest_item pat item ∷ []) (suc k) pats items
    (is ∙ sym (append_assoc before (rest_item pat item ∷ []) (rest_items pats items)))
    (length-append before (rest_item pat item ∷ []) ∙ (omega arith))
    (and_second (meets_item pat item) (meets_items pats items) h))

-- an output that names good variables alone doesn't see those behind
tail-wider : (symbols : List SymPat) (front : List NodeAt) (items more : List (List NodeAt)) (tail : Tail) → length items ≡ length symbols
    → good_tail symbols tail ≡ true → tail_scopes (record { front = front; items = items ++ more }) tail ≡ tail_scopes (record { front = front; items = items }) tail
tail-wider symbols front items more Nil all good = refl
tail-wider symbols front items more Front all good = refl
tail-wider symbols front items more (Item i) all good =
    let within : i < length symbols = has_scopes-within symbols i good in list_at-before items more i (omega arith)

pub scopes-wider : (symbols : List SymPat) (front : List NodeAt) (items more : List (List NodeAt)) (out : ScopeOut) → length items ≡ length symbols
    → good_tail symbols out.tail ≡ true
    → fill_scopes (record { front = front; items = items ++ more }) out ≡ fill_scopes (record { front = front; items = items }) out
scopes-wider symbols front items more out all good = ap (λ (rest : List NodeAt). out.scopes ++ rest) (tail-wider symbols front items more out.tail all good)

attached-wider : (symbols : List SymPat) (front : List NodeAt) (items more : List (List NodeAt)) (out : Option ScopeOut) → length items ≡ length symbols
    → good_scopes symbols out ≡ true
    → option_map (fill_scopes (record { front = front; items = items ++ more })) out ≡ option_map (fill_scopes (record { front = front; items = items })) out
attached-wider symbols front items more None all good = refl
attached-wider symbols front items more (Some out) all good = ap Some (scopes-wider symbols front items more out all good)

pub outs-wider : (symbols : List SymPat) (front : List NodeAt) (items more : List (List NodeAt)) (outs : List SymOut) → length items ≡ length symbols
    → good_outs symbols outs ≡ true
    → map (fill_item (record { front = front; items = items ++ more })) outs ≡ map (fill_item (record { front = front; items = items })) outs
outs-wider symbols front items more [] all good = refl
outs-wider symbols front items more (out ∷ outs) all good =
    same_cons _ _ _ _
    (ap (item_of out.symbol) (attached-wider symbols front items more out.scopes all (and_first (good_scopes symbols out.scopes) (good_outs symbols outs) good)))
    (outs-wider symbols front items more outs all (and_second (good_scopes symbols out.scopes) (good_outs symbols outs) good))
