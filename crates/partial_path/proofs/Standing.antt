-- How a key stands to the texts of a stack's first symbols, and elements in order of which some are taken one
-- after the other.
use Rattle.std.proofs.Common.{◌≡◌, refl, sym, ◌∙◌, ap, ℕ, zero, suc, ◌+◌, ◌-◌, ◌<◌, ◌≤◌, List, [], ◌∷◌, ◌++◌, length, take, drop, get_or, Bool, true, false, cond, Some, arith, slice_get, inl, inr}
use Rattle.std.specs.Prelude.{filter, ◌&&◌, ◌||◌, nat_eq}
use Rattle.std.specs.Option.{unwrap_or}
use Rattle.std.specs.Str.{bytes_eq}
use Rattle.std.specs.Ordering.{nat_cmp, is_eq, ordering_then}
use Rattle.std.specs.declared.cmp.Ordering.{Ordering}
use Rattle.std.specs.declared.cmp.Ordering.TheVariants.{Less, Equal, Greater}
use Rattle.std.specs.Cmp.{tied_then}
use Rattle.std.specs.Cmp.Lexicographic.{slice_cmp, texts_ties}
use Rattle.std.specs.List.Sorted.{IsNonDecreasingBy}
use Rattle.std.proofs.lemmas.Bool.{false≢true, cases_Bool}
use Rattle.std.proofs.lemmas.Bool.Decides.{nat_tests}
use Rattle.std.proofs.lemmas.List.{drop_more}
use Rattle.std.proofs.lemmas.Option.{none-some}
use Rattle.stacks_vars.specs.declared.items.SymbolItem.{SymbolItem}
use Rattle.partial_path.specs.Keys.{key_cmp, texts}
use Rattle.partial_path.specs.Sources.{stand_first}
use Rattle.partial_path.proofs.Halved.{filter_none}

-- a key of n texts stands first exactly where it is the first n texts
and_false : (b : Bool) → b && false ≡ false
and_false true = refl
and_false false = refl

pub and_assoc : (a b d : Bool) → a && (b && d) ≡ (a && b) && d
and_assoc true b d = refl
and_assoc false b d = refl

pub stands_is : (asked : List (List ℕ)) (symbols : List SymbolItem) (n : ℕ) → n ≤ length symbols
    → is_eq (key_cmp asked (take n (texts symbols))) ≡ stand_first asked symbols && nat_eq (length asked) n
stands_is [] symbols zero h = refl
stands_is [] [] (suc n) h = absurd (omega arith)
stands_is [] (s ∷ symbols) (suc n) h = grind (arith, nat_tests)
stands_is (t ∷ asked) symbols zero h = sym (ap (λ b. stand_first (t ∷ asked) symbols && b) (grind (arith, nat_tests)) ∙ and_false (stand_first (t ∷ asked) symbols))
stands_is (t ∷ asked) [] (suc n) h = absurd (omega arith)
stands_is (t ∷ asked) (s ∷ symbols) (suc n) h =
    let same : nat_eq (length asked) n ≡ nat_eq (suc (length asked)) (suc n) = grind (arith, nat_tests) in
    sym (tied_then (slice_cmp nat_cmp t s.symbol) (key_cmp asked (take n (texts symbols))))
    ∙ (λ i. sym (texts_ties t s.symbol) i && (stands_is asked symbols n (omega arith) i))
    ∙ and_assoc (bytes_eq t s.symbol) (stand_first asked symbols) (nat_eq (length asked) n)
    ∙ ap (λ b. (bytes_eq t s.symbol && stand_first asked symbols) && b) same

-- a longer one that stands first is behind them
pub first_of : (a b : Bool) → a && b ≡ true → a ≡ true
first_of true b e = refl
first_of false b e = e

pub second_of : (a b : Bool) → a && b ≡ true → b ≡ true
second_of true b e = e
second_of false b e = absurd (false≢true e)

pub equal_then : (o p : Ordering) → is_eq o ≡ true → ordering_then o p ≡ p
equal_then Less p e = absurd (false≢true e)
equal_then Equal p e = refl
equal_then Greater p e = absurd (false≢true e)

pub stands_behind : (asked : List (List ℕ)) (symbols : List SymbolItem) (n : ℕ) → stand_first asked symbols ≡ true → n < length asked
    → key_cmp asked (take n (texts symbols)) ≡ Greater
stands_behind [] symbols n e h = absurd (omega arith)
stands_behind (t ∷ asked) symbols zero e h = refl
stands_behind (t ∷ asked) [] (suc n) e h = absurd (false≢true e)
stands_behind (t ∷ asked) (s ∷ symbols) (suc n) e h =
    equal_then (slice_cmp nat_cmp t s.symbol) _ (sym (texts_ties t s.symbol) ∙ first_of _ _ e)
    ∙ stands_behind asked symbols n (second_of (bytes_eq t s.symbol) _ e) (omega arith)

pub stands_short : (asked : List (List ℕ)) (symbols : List SymbolItem) → stand_first asked symbols ≡ true → length asked ≤ length symbols
stands_short [] symbols e = omega arith
stands_short (t ∷ asked) [] e = absurd (false≢true e)
stands_short (t ∷ asked) (s ∷ symbols) e = let rest : length asked ≤ length symbols = stands_short asked symbols (second_of (bytes_eq t s.symbol) _ e) in omega (arith, rest)

-- those that pass one of two tests, where those of the second stand behind those of the first
pub split_kept : {X : Type 0} (p q r : X → Bool) (rank : X → ℕ) → ((x : X) → p x ≡ q x || r x) → ((x : X) → q x ≡ true → rank x ≡ 1) → ((x : X) → r x ≡ true → rank x ≡ 2)
    → (xs : List X) → IsNonDecreasingBy rank xs → filter p xs ≡ filter q xs ++ filter r xs
split_kept p q r rank both low high [] up = refl
split_kept {X} p q r rank both low high (x ∷ xs) up =
    split_case (q x) refl (r x) refl (split_kept p q r rank both low high xs (λ i j d le h. up (suc i) (suc j) d (omega arith) (omega arith)))
  where
    split_case : (b : Bool) → q x ≡ b → (d : Bool) → r x ≡ d → filter p xs ≡ filter q xs ++ filter r xs → filter p (x ∷ xs) ≡ filter q (x ∷ xs) ++ filter r (x ∷ xs)
    split_case true e true f rest = absurd (omega (arith, low x e, high x f))
    split_case true e false f rest =
        ap (λ t. cond t (x ∷ filter p xs) (filter p xs)) (both x ∙ (λ i. e i || f i)) ∙ ap (λ ys. x ∷ ys) rest
        ∙ sym ((λ i. cond (e i) (x ∷ filter q xs) (filter q xs) ++ cond (f i) (x ∷ filter r xs) (filter r xs)))
    split_case false e true f rest =
        let none : filter q xs ≡ [] = filter_none q xs (λ k d h. elim (cases_Bool (q (get_or xs k d)))
        [ inl passed ↦ absurd (let rise : rank x ≤ rank (get_or xs k d) = up zero (suc k) d (omega arith) (omega arith) in omega (arith, rise, high x f, low (get_or xs k d) passed)) | inr failed ↦ failed ]) in
        ap (λ t. cond t (x ∷ filter p xs) (filter p xs)) (both x ∙ (λ i. e i || f i)) ∙ ap (λ ys. x ∷ ys) (rest ∙ ap (λ ys. ys ++ filter r xs) none)
        ∙ sym ((λ i. cond (e i) (x ∷ filter q xs) (filter q xs) ++ cond (f i) (x ∷ filter r xs) (filter r xs)) ∙ ap (λ ys. ys ++ x ∷ filter r xs) none)
    split_case false e false f rest =
        ap (λ t. cond t (x ∷ filter p xs) (filter p xs)) (both x ∙ (λ i. e i || f i)) ∙ rest
        ∙ sym ((λ i. cond (e i) (x ∷ filter q xs) (filter q xs) ++ cond (f i) (x ∷ filter r xs) (filter r xs)))

-- the next of elements from a place on, before another
pub next_taken : {X : Type 0} (xs : List X) (place end : ℕ) (d : X) → place < end → place < length xs
    → take (end - place) (drop place xs) ≡ get_or xs place d ∷ take (end - (place + 1)) (drop (place + 1) xs)
next_taken xs place end d h inside =
    let more : end - place ≡ suc (end - (place + 1)) = omega (arith, h) in
    (λ i. take (more i) (drop_more xs place d inside i))

pub first_taken : {X : Type 0} (xs : List X) (place k : ℕ) (x : X) → slice_get (take k (drop place xs)) 0 ≡ Some x → (place < length xs) × (get_or xs place x ≡ x)
first_taken [] zero zero x e = absurd (none-some x e)
first_taken [] zero (suc k) x e = absurd (none-some x e)
first_taken [] (suc place) zero x e = absurd (none-some x e)
first_taken [] (suc place) (suc k) x e = absurd (none-some x e)
first_taken (y ∷ xs) zero zero x e = absurd (none-some x e)
first_taken (y ∷ xs) zero (suc k) x e = (omega arith, ap (λ o. unwrap_or o x) e)
first_taken (y ∷ xs) (suc place) k x e = let rest = first_taken xs place k x e in (omega (arith, rest.0), rest.1)
