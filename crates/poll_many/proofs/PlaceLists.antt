-- Lists in which one thing is put in place of another, lists in another order, and what is told of them.
use Rattle.std.proofs.Common.{◌≡◌, ◌≢◌, ◌⊎◌, inl, inr, ℕ, zero, suc, ◌+◌, ◌≤◌, ◌||◌, not, Bool, true, false, List, [], ◌∷◌, ◌++◌, length, map, slice_get, set, Option, None, Some, refl, ap, sym, subst, ◌∙◌, arith, append_assoc, append-nil, length-append}
use Rattle.std.specs.List.{AllByRecursion, flat_map, list_any}
use Rattle.std.specs.List.Sorted.{IsPermutation}
use Rattle.std.proofs.lemmas.Option.{same_Some}
use Rattle.std.proofs.lemmas.List.Concat.{flat_map-append}
use Rattle.std.proofs.lemmas.List.Sorted.{IsPermutation-sym, IsPermutation-trans, IsPermutation-append_right, IsPermutation-middle, IsPermutation-to_front, IsPermutation-cons}
use Rattle.nav_io.specs.Told.{append_told, HasOut}

-- what is told after more, and after nothing
pub told_more : {X : Type 0} (told : Option (List X)) (xs ys : List X) → append_told (append_told told xs) ys ≡ append_told told (xs ++ ys)
told_more None xs ys = refl
told_more (Some told) xs ys = ap Some (append_assoc told xs ys)

pub told_nothing : {X : Type 0} (told : Option (List X)) → told ≡ append_told told []
told_nothing None = refl
told_nothing (Some xs) = ap Some (sym (append-nil xs))

pub map_last : {A B : Type 0} (f : A → B) (xs : List A) (x : A) → map f (xs ++ x ∷ []) ≡ map f xs ++ f x ∷ []
map_last f [] x = refl
map_last f (y ∷ xs) x = ap (λ w. f y ∷ w) (map_last f xs x)

-- one thing more is told, where all are images
pub told_one_more : {A X : Type 0} (f : A → X) (t0 t1 t2 : Option (List X)) (xs : List A) (x : A)
    → t1 ≡ append_told t0 (map f xs) → t2 ≡ append_told t1 (f x ∷ []) → t2 ≡ append_told t0 (map f (xs ++ x ∷ []))
told_one_more f t0 t1 t2 xs x a b =
    b ∙ (ap (λ w. append_told w (f x ∷ [])) a ∙ (told_more t0 (map f xs) (f x ∷ []) ∙ ap (λ w. append_told t0 w) (sym (map_last f xs x))))

pub told_one : {X : Type 0} (t0 t1 t2 : Option (List X)) (xs : List X) (x : X)
    → t1 ≡ append_told t0 xs → t2 ≡ append_told t1 (x ∷ []) → t2 ≡ append_told t0 (xs ++ x ∷ [])
told_one t0 t1 t2 xs x a b = b ∙ (ap (λ w. append_told w (x ∷ [])) a ∙ told_more t0 xs (x ∷ []))

pub all_last : {X : Type 0} (P : X → Type 0) (xs : List X) (x : X) → AllByRecursion P xs → P x → AllByRecursion P (xs ++ x ∷ [])
all_last P [] x all last = (last, tt)
all_last P (y ∷ xs) x all last = (all.0, all_last P xs x all.1 last)

-- a list, cut where something stands; something else in place of that
pub record IsCut {X : Type 0} (xs : List X) (n : ℕ) (x : X) : Type 0 where
  pub front : List X
  pub behind : List X
  pub is : xs ≡ front ++ x ∷ behind
  pub put : (y : X) → set xs n y ≡ front ++ y ∷ behind

pub cut_at : {X : Type 0} (xs : List X) (n : ℕ) (x : X) → slice_get xs n ≡ Some x → IsCut xs n x
cut_at [] n x e = absurd (cc e)
cut_at (y ∷ xs) zero x e = record { front = []; behind = xs; is = ap (λ z. z ∷ xs) (same_Some y x e); put = λ w. refl }
cut_at (y ∷ xs) (suc n) x e =
    let r = cut_at xs n x e in
    record { front = y ∷ r.front; behind = r.behind; is = ap (λ zs. y ∷ zs) r.is; put = λ w. ap (λ zs. y ∷ zs) (r.put w) }

-- what stands in a list in which something was put
pub got : {X : Type 0} (xs : List X) (n : ℕ) (x y : X) (k : ℕ) (z : X) → slice_get xs n ≡ Some x → slice_get (set xs n y) k ≡ Some z
    → ((k ≡ n) × (z ≡ y)) ⊎ ((k ≢ n) × (slice_get xs k ≡ Some z))
got [] n x y k z e f = absurd (cc e)
got (w ∷ xs) zero x y zero z e f = inl (refl, sym (same_Some y z f))
got (w ∷ xs) zero x y (suc k) z e f = inr ((λ same. omega (arith, same)), f)
got (w ∷ xs) (suc n) x y zero z e f = inr ((λ same. omega (arith, same)), f)
got (w ∷ xs) (suc n) x y (suc k) z e f = elim (got xs n x y k z e f) [
  | inl h ↦ inl (ap suc h.0, h.1)
  | inr h ↦ inr ((λ same. h.0 (omega (arith, same))), h.1)
]

pub put_here : {X : Type 0} (xs : List X) (n : ℕ) (x y : X) → slice_get xs n ≡ Some x → slice_get (set xs n y) n ≡ Some y
put_here [] n x y e = absurd (cc e)
put_here (w ∷ xs) zero x y e = refl
put_here (w ∷ xs) (suc n) x y e = put_here xs n x y e

pub put_there : {X : Type 0} (xs : List X) (n k : ℕ) (y : X) → k ≢ n → slice_get (set xs n y) k ≡ slice_get xs k
put_there [] n k y not = refl
put_there (x ∷ xs) zero zero y not = absurd (not refl)
put_there (x ∷ xs) zero (suc k) y not = refl
put_there (x ∷ xs) (suc n) zero y not = refl
put_there (x ∷ xs) (suc n) (suc k) y not = put_there xs n k y (λ e. not (ap suc e))

pub same_or : (k n : ℕ) → (k ≡ n) ⊎ (k ≢ n)
same_or k n = grind arith

-- the links of things, of which one stands there
pub links_at : {A B : Type 0} (f : A → List B) (xs : List A) (n : ℕ) (x : A) (c : IsCut xs n x) (ys : List B) → f x ≡ ys
    → flat_map f xs ≡ flat_map f c.front ++ (ys ++ flat_map f c.behind)
links_at f xs n x c ys e =
    ap (flat_map f) c.is ∙ (flat_map-append f c.front (x ∷ c.behind) ∙ ap (λ w. flat_map f c.front ++ (w ++ flat_map f c.behind)) e)

pub links_put : {A B : Type 0} (f : A → List B) (xs : List A) (n : ℕ) (x y : A) (c : IsCut xs n x) (ys : List B) → f y ≡ ys
    → flat_map f (set xs n y) ≡ flat_map f c.front ++ (ys ++ flat_map f c.behind)
links_put f xs n x y c ys e =
    ap (flat_map f) (c.put y) ∙ (flat_map-append f c.front (y ∷ c.behind) ∙ ap (λ w. flat_map f c.front ++ (w ++ flat_map f c.behind)) e)

-- one thing more, on both sides
pub permuted_in : {X : Type 0} (given over front behind : List X) (x : X) → IsPermutation given (over ++ (front ++ behind))
    → IsPermutation (given ++ x ∷ []) (over ++ (front ++ x ∷ behind))
permuted_in given over front behind x h =
    let middle = IsPermutation-sym _ _ (IsPermutation-middle (over ++ front) x behind) in
    let moved : IsPermutation (x ∷ (over ++ (front ++ behind))) (over ++ (front ++ x ∷ behind)) =
    subst (λ w. IsPermutation (x ∷ (over ++ (front ++ behind))) w) (append_assoc over front (x ∷ behind))
    (subst (λ w. IsPermutation (x ∷ w) ((over ++ front) ++ x ∷ behind)) (append_assoc over front behind) middle) in
    IsPermutation-trans _ _ _ (IsPermutation-to_front given x) (IsPermutation-trans _ _ _ (IsPermutation-cons x _ _ h) moved)

-- one thing goes over to the others
pub permuted_over : {X : Type 0} (given over front behind : List X) (x : X) → IsPermutation given (over ++ (front ++ x ∷ behind))
    → IsPermutation given ((over ++ x ∷ []) ++ (front ++ behind))
permuted_over given over front behind x h =
    subst (λ w. IsPermutation given w) (sym (append_assoc over (x ∷ []) (front ++ behind)))
    (IsPermutation-trans _ _ _ h (IsPermutation-append_right over _ _ (IsPermutation-middle front x behind)))

-- of things given out, so many are out still
pub has_out : {X : Type 0} (gave back : Option (List X)) (given returned : List X) (n : ℕ)
    → HasOut gave back 0 → length returned + n ≤ length given → HasOut (append_told gave given) (append_told back returned) n
has_out None back given returned n h more = tt
has_out (Some xs) None given returned n h more = tt
has_out (Some xs) (Some ys) given returned n h more =
    omega (arith, length-append xs given, length-append ys returned, h, more)

-- before the first was given out no more had come back
pub had_room : {X : Type 0} (gave back : Option (List X)) (given returned : List X) (x : X)
    → HasOut (append_told (append_told gave given) (x ∷ [])) (append_told back returned) 1 → length given ≤ length returned → HasOut gave back 0
had_room None back given returned x h few = tt
had_room (Some xs) None given returned x h few = tt
had_room (Some xs) (Some ys) given returned x h few =
    omega (arith, length-append (xs ++ given) (x ∷ []), length-append xs given, length-append ys returned, h, few)

first_fails : (a b : Bool) → (a || b) ≡ false → a ≡ false
first_fails true b e = absurd (cc e)
first_fails false b e = refl

others_fail : (a b : Bool) → (a || b) ≡ false → b ≡ false
others_fail true b e = absurd (cc e)
others_fail false b e = e

-- where none passes, each fails
pub none_passes : {X : Type 0} (test : X → Bool) (xs : List X) → list_any test xs ≡ false → (n : ℕ) (x : X) → slice_get xs n ≡ Some x → test x ≡ false
none_passes test [] e n x is = absurd (cc is)
none_passes test (y ∷ xs) e zero x is = subst (λ z. test z ≡ false) (same_Some y x is) (first_fails (test y) (list_any test xs) e)
none_passes test (y ∷ xs) e (suc n) x is = none_passes test xs (others_fail (test y) (list_any test xs) e) n x is

pub not_true : (b : Bool) → not b ≡ true → b ≡ false
not_true true e = absurd (cc e)
not_true false e = refl
