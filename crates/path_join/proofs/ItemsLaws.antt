-- Laws of matching symbols: of lists put together, of lengths, and of symbols that aren't looked at.
use Rattle.std.proofs.Common.{◌≡◌, ◌≤◌, suc, List, [], ◌∷◌, ◌++◌, length, drop, Bool, true, ◌&&◌, refl, sym, ap, ◌∙◌, arith}
use Rattle.stacks_vars.specs.declared.scopes.NodeAt.{NodeAt}
use Rattle.stacks_vars.specs.declared.items.SymbolItem.{SymbolItem}
use Rattle.stacks_vars.specs.declared.patterns.SymPat.{SymPat}
use Rattle.path_join.proofs.AndLaws.{and_assoc, and_second}
use Rattle.path_join.proofs.MeetsLaws.{meets_item, rest_item, meets_items, rest_items}

pub meets-append : (pats more : List SymPat) (items : List SymbolItem)
    → meets_items (pats ++ more) items ≡ (meets_items pats items && meets_items more (drop (length pats) items))
meets-append [] more items = refl
meets-append (pat ∷ pats) more [] = refl
meets-append (pat ∷ pats) more (item ∷ items) =
    ap (λ (b : Bool). meets_item pat item && b) (meets-append pats more items)
    ∙ sym (and_assoc (meets_item pat item) (meets_items pats items) (meets_items more (drop (length pats) items)))

pub rest_items-none : (pats : List SymPat) → rest_items pats [] ≡ []
rest_items-none [] = refl
rest_items-none (pat ∷ pats) = refl

pub rest-append : (pats more : List SymPat) (items : List SymbolItem)
    → rest_items (pats ++ more) items ≡ rest_items pats items ++ rest_items more (drop (length pats) items)
rest-append [] more items = refl
rest-append (pat ∷ pats) more [] = sym (rest_items-none more)
rest-append (pat ∷ pats) more (item ∷ items) =
    ap (λ (rests : List (List NodeAt)). rest_item pat item ∷ rests) (rest-append pats more items)

pub length-rest : (pats : List SymPat) (items : List SymbolItem) → meets_items pats items ≡ true → length (rest_items pats items) ≡ length pats
length-rest [] items h = refl
length-rest (pat ∷ pats) [] h = cc
length-rest (pat ∷ pats) (item ∷ items) h = ap suc (length-rest pats items (and_second (meets_item pat item) (meets_items pats items) h))

pub meets-length : (pats : List SymPat) (items : List SymbolItem) → meets_items pats items ≡ true → length pats ≤ length items
meets-length [] items h = omega arith
meets-length (pat ∷ pats) [] h = cc
meets-length (pat ∷ pats) (item ∷ items) h =
    let k : length pats ≤ length items = meets-length pats items (and_second (meets_item pat item) (meets_items pats items) h) in omega arith

-- symbols behind as many as are asked for aren't looked at
pub meets-enough : (pats : List SymPat) (items left : List SymbolItem) → length pats ≤ length items
    → meets_items pats (items ++ left) ≡ meets_items pats items
meets-enough [] items left h = refl
meets-enough (pat ∷ pats) [] left h = absurd (omega arith)
meets-enough (pat ∷ pats) (item ∷ items) left h = ap (λ (b : Bool). meets_item pat item && b) (meets-enough pats items left (omega arith))

pub rest-enough : (pats : List SymPat) (items left : List SymbolItem) → length pats ≤ length items
    → rest_items pats (items ++ left) ≡ rest_items pats items
rest-enough [] items left h = refl
rest-enough (pat ∷ pats) [] left h = absurd (omega arith)
rest-enough (pat ∷ pats) (item ∷ items) left h =
    ap (λ (rests : List (List NodeAt)). rest_item pat item ∷ rests) (rest-enough pats items left (omega arith))

-- what is asked for past the first symbols is met by those that follow
pub meets-past : (pats : List SymPat) (items left : List SymbolItem) → meets_items pats (items ++ left) ≡ true
    → meets_items (drop (length items) pats) left ≡ true
meets-past pats [] left h = h
meets-past [] (item ∷ items) left h = refl
meets-past (pat ∷ pats) (item ∷ items) left h =
    meets-past pats items left (and_second (meets_item pat item) (meets_items pats (items ++ left)) h)
