-- Symbols that are asked for, met one by one.
use Rattle.std.proofs.Common.{◌≡◌, refl, sym, ◌∙◌, ap, ℕ, ◌+◌, ◌-◌, ◌<◌, ◌≤◌, List, [], ◌∷◌, length, take, drop, reverse, map, Option, Some, None, get_or, arith, true, false}
use Rattle.std.specs.Option.{option_map, option_and_then, is_some}
use Rattle.std.proofs.lemmas.List.{drop_more}
use Rattle.std.proofs.lemmas.Bool.{false≢true}
use Rattle.std.proofs.Math.ListN.{drop_of_length-le}
use Rattle.stacks_vars.specs.declared.scopes.NodeAt.{NodeAt}
use Rattle.stacks_vars.specs.declared.items.SymbolItem.{SymbolItem}
use Rattle.stacks_vars.specs.declared.patterns.SymPat.{SymPat}
use Rattle.partial_path.specs.Apply.{match_item, match_items}
use Rattle.partial_path.specs.Moved.{moved_symbol}
use Rattle.partial_path.proofs.Lefts.{last_first}

-- the patterns left, with the first of them apart
split_asked : (base : ℕ) (asked : List SymPat) (i : ℕ) (d : SymPat) (items : List SymbolItem) → i < length asked
    → match_items (map (moved_symbol base) (drop i asked)) items
    ≡ match_items (moved_symbol base (get_or asked i d) ∷ map (moved_symbol base) (drop (i + 1) asked)) items
split_asked base asked i d items a = ap (λ pats. match_items (map (moved_symbol base) pats) items) (drop_more asked i d a)

-- whether all are met is told by the first and the others
told_here : (m : Option (List NodeAt)) (left : Option (List (List NodeAt))) → is_some m ≡ true
    → is_some (option_and_then (λ (rest : List NodeAt). option_map (λ (more : List (List NodeAt)). rest ∷ more) left) m) ≡ is_some left
told_here None left e = absurd (false≢true e)
told_here (Some rest) None e = refl
told_here (Some rest) (Some more) e = refl

untold_here : (m : Option (List NodeAt)) (left : Option (List (List NodeAt))) → is_some m ≡ false
    → is_some (option_and_then (λ (rest : List NodeAt). option_map (λ (more : List (List NodeAt)). rest ∷ more) left) m) ≡ false
untold_here None left e = refl
untold_here (Some rest) left e = absurd (false≢true (sym e))

-- the symbols left, where there is one: the front is the last
split_met : (base : ℕ) (asked : List SymPat) (items : List SymbolItem) (i left : ℕ) (d : SymPat) (e : SymbolItem) → i < length asked → (left ≡ 0 → ⊥) → left ≤ length items
    → match_items (map (moved_symbol base) (drop i asked)) (reverse (take left items))
    ≡ match_items (moved_symbol base (get_or asked i d) ∷ map (moved_symbol base) (drop (i + 1) asked)) (get_or items (left - 1) e ∷ reverse (take (left - 1) items))
split_met base asked items i left d e a some b =
    let n : left ≡ (left - 1) + 1 = omega arith in
    ap (λ n. match_items (map (moved_symbol base) (drop i asked)) (reverse (take n items))) n
    ∙ split_asked base asked i d (reverse (take ((left - 1) + 1) items)) a
    ∙ ap (match_items (moved_symbol base (get_or asked i d) ∷ map (moved_symbol base) (drop (i + 1) asked))) (last_first items (left - 1) e (omega arith))

pub told_more : (base : ℕ) (asked : List SymPat) (items : List SymbolItem) (i left : ℕ) (d : SymPat) (e : SymbolItem) → i < length asked → (left ≡ 0 → ⊥) → left ≤ length items
    → true ≡ is_some (match_item (moved_symbol base (get_or asked i d)) (get_or items (left - 1) e))
    → is_some (match_items (map (moved_symbol base) (drop i asked)) (reverse (take left items))) ≡ is_some (match_items (map (moved_symbol base) (drop (i + 1) asked)) (reverse (take (left - 1) items)))
told_more base asked items i left d e a some b t =
    ap is_some (split_met base asked items i left d e a some b)
    ∙ told_here (match_item (moved_symbol base (get_or asked i d)) (get_or items (left - 1) e)) (match_items (map (moved_symbol base) (drop (i + 1) asked)) (reverse (take (left - 1) items))) (sym t)

pub untold : (base : ℕ) (asked : List SymPat) (items : List SymbolItem) (i left : ℕ) (d : SymPat) (e : SymbolItem) → i < length asked → (left ≡ 0 → ⊥) → left ≤ length items
    → false ≡ is_some (match_item (moved_symbol base (get_or asked i d)) (get_or items (left - 1) e))
    → is_some (match_items (map (moved_symbol base) (drop i asked)) (reverse (take left items))) ≡ false
untold base asked items i left d e a some b t =
    ap is_some (split_met base asked items i left d e a some b)
    ∙ untold_here (match_item (moved_symbol base (get_or asked i d)) (get_or items (left - 1) e)) (match_items (map (moved_symbol base) (drop (i + 1) asked)) (reverse (take (left - 1) items))) (sym t)

pub too_few_told : (base : ℕ) (asked : List SymPat) (items : List SymbolItem) (i left : ℕ) (d : SymPat) → i < length asked → left ≡ 0
    → is_some (match_items (map (moved_symbol base) (drop i asked)) (reverse (take left items))) ≡ false
too_few_told base asked items i left d a z =
    ap (λ n. is_some (match_items (map (moved_symbol base) (drop i asked)) (reverse (take n items)))) z
    ∙ ap is_some (split_asked base asked i d [] a)

pub all_told : (base : ℕ) (asked : List SymPat) (i : ℕ) (items : List SymbolItem) → length asked ≤ i
    → is_some (match_items (map (moved_symbol base) (drop i asked)) items) ≡ true
all_told base asked i items a = ap (λ pats. is_some (match_items (map (moved_symbol base) pats) items)) (drop_of_length-le asked a)
