-- Members of a list: of two lists in one, of mapped, filtered and reversed lists, and what a test of any or of all
-- elements tells of them.
use Rattle.std.proofs.Common.{◌≡◌, ℕ, zero, suc, ◌<◌, Bool, true, false, cond, List, [], ◌∷◌, ◌++◌, map, reverse, length, sym, refl, ap, ◌∙◌, subst, ◌⊎◌, inl, inr, arith, filter, flat_map, Contains, get_or}
use Rattle.std.specs.List.{AllByRecursion, list_any, list_all}
use Rattle.std.proofs.lemmas.List.{reverse-append, reverse-reverse}
use Rattle.std.proofs.lemmas.Bool.{false≢true, or_cases, or_left, or_right, and_from, and_parts}
use Rattle.list_facts.specs.Members.{IsIn}

-- a member of one of two lists is one of both, and the other way round
pub IsIn-append_left : {X : Type 0} (x : X) (xs ys : List X) → IsIn x xs → IsIn x (xs ++ ys)
IsIn-append_left x [] ys h = absurd h
IsIn-append_left x (y ∷ xs) ys (inl e) = inl e
IsIn-append_left x (y ∷ xs) ys (inr h) = inr (IsIn-append_left x xs ys h)

pub IsIn-append_right : {X : Type 0} (x : X) (xs ys : List X) → IsIn x ys → IsIn x (xs ++ ys)
IsIn-append_right x [] ys h = h
IsIn-append_right x (y ∷ xs) ys h = inr (IsIn-append_right x xs ys h)

later_or : {X : Type 0} (x y : X) (xs ys : List X) → IsIn x xs ⊎ IsIn x ys → IsIn x (y ∷ xs) ⊎ IsIn x ys
later_or x y xs ys (inl h) = inl (inr h)
later_or x y xs ys (inr h) = inr h

pub IsIn-append_cases : {X : Type 0} (x : X) (xs ys : List X) → IsIn x (xs ++ ys) → IsIn x xs ⊎ IsIn x ys
IsIn-append_cases x [] ys h = inr h
IsIn-append_cases x (y ∷ xs) ys (inl e) = inl (inl e)
IsIn-append_cases x (y ∷ xs) ys (inr h) = later_or x y xs ys (IsIn-append_cases x xs ys h)

in_either : {X : Type 0} (x : X) (xs ys : List X) → IsIn x xs ⊎ IsIn x ys → IsIn x (ys ++ xs)
in_either x xs ys (inl h) = IsIn-append_right x ys xs h
in_either x xs ys (inr h) = IsIn-append_left x ys xs h

-- two lists that change places have the same members
pub IsIn-swap : {X : Type 0} (x : X) (xs ys : List X) → IsIn x (xs ++ ys) → IsIn x (ys ++ xs)
IsIn-swap x xs ys h = in_either x xs ys (IsIn-append_cases x xs ys h)

-- members of a mapped list are images of members
pub IsIn-map : {X Y : Type 0} (f : X → Y) (x : X) (xs : List X) → IsIn x xs → IsIn (f x) (map f xs)
IsIn-map f x [] h = absurd h
IsIn-map f x (y ∷ xs) (inl e) = inl (ap f e)
IsIn-map f x (y ∷ xs) (inr h) = inr (IsIn-map f x xs h)

pub IsIn-map_from : {X Y : Type 0} (f : X → Y) (y : Y) (xs : List X) → IsIn y (map f xs) → (x : X) × IsIn x xs × (f x ≡ y)
IsIn-map_from f y [] h = absurd h
IsIn-map_from f y (x ∷ xs) (inl e) = (x, inl refl, sym e)
IsIn-map_from f y (x ∷ xs) (inr h) = let r = IsIn-map_from f y xs h in (r.0, inr r.1, r.2)

in_kept : {X : Type 0} (x y : X) (ys : List X) (b : Bool) → IsIn x ys → IsIn x (cond b (y ∷ ys) ys)
in_kept x y ys true h = inr h
in_kept x y ys false h = h

in_head : {X : Type 0} (x y : X) (ys : List X) (b : Bool) → b ≡ true → x ≡ y → IsIn x (cond b (y ∷ ys) ys)
in_head x y ys true t e = inl e
in_head x y ys false t e = absurd (false≢true t)

-- members that pass a test are those of the filtered list
pub IsIn-filter : {X : Type 0} (p : X → Bool) (x : X) (xs : List X) → IsIn x xs → p x ≡ true → IsIn x (filter p xs)
IsIn-filter p x [] h t = absurd h
IsIn-filter p x (y ∷ xs) (inl e) t = in_head x y (filter p xs) (p y) (ap p (sym e) ∙ t) e
IsIn-filter p x (y ∷ xs) (inr h) t = in_kept x y (filter p xs) (p y) (IsIn-filter p x xs h t)

kept_cases : {X : Type 0} (x y : X) (ys : List X) (b : Bool) → IsIn x (cond b (y ∷ ys) ys) → ((x ≡ y) × (b ≡ true)) ⊎ IsIn x ys
kept_cases x y ys true (inl e) = inl (e, refl)
kept_cases x y ys true (inr h) = inr h
kept_cases x y ys false h = inr h

filtered_from : {X : Type 0} (p : X → Bool) (x y : X) (xs : List X) → ((x ≡ y) × (p y ≡ true)) ⊎ (IsIn x xs × (p x ≡ true)) → IsIn x (y ∷ xs) × (p x ≡ true)
filtered_from p x y xs (inl h) = (inl h.0, ap p h.0 ∙ h.1)
filtered_from p x y xs (inr h) = (inr h.0, h.1)

-- one of two cases carried on
pub in_rest : (P Q R : Type 0) → (Q → R) → P ⊎ Q → P ⊎ R
in_rest P Q R f (inl p) = inl p
in_rest P Q R f (inr q) = inr (f q)

pub IsIn-filter_from : {X : Type 0} (p : X → Bool) (x : X) (xs : List X) → IsIn x (filter p xs) → IsIn x xs × (p x ≡ true)
IsIn-filter_from p x [] h = absurd h
IsIn-filter_from p x (y ∷ xs) h =
    filtered_from p x y xs
    (in_rest ((x ≡ y) × (p y ≡ true)) (IsIn x (filter p xs)) (IsIn x xs × (p x ≡ true))
    (λ g. IsIn-filter_from p x xs g) (kept_cases x y (filter p xs) (p y) h))

-- a reversed list has the same members
pub reverse-cons : {X : Type 0} (x : X) (xs : List X) → reverse (x ∷ xs) ≡ reverse xs ++ x ∷ []
reverse-cons x xs = reverse-append (x ∷ []) xs

pub IsIn-reverse : {X : Type 0} (x : X) (xs : List X) → IsIn x xs → IsIn x (reverse xs)
IsIn-reverse x [] h = absurd h
IsIn-reverse x (y ∷ xs) (inl e) = subst (IsIn x) (sym (reverse-cons y xs)) (IsIn-append_right x (reverse xs) (y ∷ []) (inl e))
IsIn-reverse x (y ∷ xs) (inr h) = subst (IsIn x) (sym (reverse-cons y xs)) (IsIn-append_left x (reverse xs) (y ∷ []) (IsIn-reverse x xs h))

pub IsIn-reverse_from : {X : Type 0} (x : X) (xs : List X) → IsIn x (reverse xs) → IsIn x xs
IsIn-reverse_from x xs h = subst (IsIn x) (reverse-reverse xs) (IsIn-reverse x (reverse xs) h)

-- members of lists in a row are those of the lists
pub IsIn-flat_map : {X Y : Type 0} (f : X → List Y) (x : X) (y : Y) (xs : List X) → IsIn x xs → IsIn y (f x) → IsIn y (flat_map f xs)
IsIn-flat_map f x y [] h g = absurd h
IsIn-flat_map f x y (z ∷ xs) (inl e) g = IsIn-append_left y (f z) (flat_map f xs) (subst (λ w. IsIn y (f w)) e g)
IsIn-flat_map f x y (z ∷ xs) (inr h) g = IsIn-append_right y (f z) (flat_map f xs) (IsIn-flat_map f x y xs h g)

piece_later : {X Y : Type 0} (f : X → List Y) (y : Y) (z : X) (xs : List X) → IsIn y (f z) ⊎ ((x : X) × IsIn x xs × IsIn y (f x)) → (x : X) × IsIn x (z ∷ xs) × IsIn y (f x)
piece_later f y z xs (inl h) = (z, inl refl, h)
piece_later f y z xs (inr h) = (h.0, inr h.1, h.2)

pub IsIn-flat_map_from : {X Y : Type 0} (f : X → List Y) (y : Y) (xs : List X) → IsIn y (flat_map f xs) → (x : X) × IsIn x xs × IsIn y (f x)
IsIn-flat_map_from f y [] h = absurd h
IsIn-flat_map_from {X} f y (z ∷ xs) h =
    piece_later f y z xs
    (in_rest (IsIn y (f z)) (IsIn y (flat_map f xs)) ((x : X) × IsIn x xs × IsIn y (f x))
    (λ g. IsIn-flat_map_from f y xs g) (IsIn-append_cases y (f z) (flat_map f xs) h))

-- what holds of each element holds of one that stands in the list, and the other way round
pub at_member : {X : Type 0} (P : X → Type 0) (x : X) (xs : List X) → AllByRecursion P xs → IsIn x xs → P x
at_member P x [] all h = absurd h
at_member P x (y ∷ xs) all (inl e) = subst P (sym e) all.0
at_member P x (y ∷ xs) all (inr h) = at_member P x xs all.1 h

pub each_member : {X : Type 0} (P : X → Type 0) (xs : List X) → ((x : X) → IsIn x xs → P x) → AllByRecursion P xs
each_member P [] each = tt
each_member P (x ∷ xs) each = (each x (inl refl), each_member P xs (λ y h. each y (inr h)))

any_later : {X : Type 0} (p : X → Bool) (x : X) (xs : List X) → (p x ≡ true) ⊎ ((y : X) × IsIn y xs × (p y ≡ true)) → (y : X) × IsIn y (x ∷ xs) × (p y ≡ true)
any_later p x xs (inl t) = (x, inl refl, t)
any_later p x xs (inr h) = (h.0, inr h.1, h.2)

any_rest : {X : Type 0} (p : X → Bool) (x : X) (xs : List X) → (list_any p xs ≡ true → (y : X) × IsIn y xs × (p y ≡ true)) → (p x ≡ true) ⊎ (list_any p xs ≡ true) → (p x ≡ true) ⊎ ((y : X) × IsIn y xs × (p y ≡ true))
any_rest p x xs rest (inl t) = inl t
any_rest p x xs rest (inr t) = inr (rest t)

-- some element passes the test where `list_any` says so, and only there
pub passing_member : {X : Type 0} (p : X → Bool) (xs : List X) → list_any p xs ≡ true → (x : X) × IsIn x xs × (p x ≡ true)
passing_member p [] t = absurd (false≢true t)
passing_member p (x ∷ xs) t =
    any_later p x xs (any_rest p x xs (λ h. passing_member p xs h) (or_cases (p x) (list_any p xs) t))

pub list_any-from_member : {X : Type 0} (p : X → Bool) (x : X) (xs : List X) → IsIn x xs → p x ≡ true → list_any p xs ≡ true
list_any-from_member p x [] h t = absurd h
list_any-from_member p x (y ∷ xs) (inl e) t = or_left (p y) (list_any p xs) (ap p (sym e) ∙ t)
list_any-from_member p x (y ∷ xs) (inr h) t = or_right (p y) (list_any p xs) (list_any-from_member p x xs h t)

all_first : {X : Type 0} (p : X → Bool) (x y : X) (xs : List X) → (list_all p xs ≡ true → IsIn x xs → p x ≡ true) → (p y ≡ true) × (list_all p xs ≡ true) → IsIn x (y ∷ xs) → p x ≡ true
all_first p x y xs rest t (inl e) = ap p e ∙ t.0
all_first p x y xs rest t (inr h) = rest t.1 h

-- each element passes the test where `list_all` says so, and only there
pub list_all-at_member : {X : Type 0} (p : X → Bool) (x : X) (xs : List X) → list_all p xs ≡ true → IsIn x xs → p x ≡ true
list_all-at_member p x [] t h = absurd h
list_all-at_member p x (y ∷ xs) t h = all_first p x y xs (λ t' h'. list_all-at_member p x xs t' h') (and_parts (p y) (list_all p xs) t) h

pub list_all-from_members : {X : Type 0} (p : X → Bool) (xs : List X) → ((x : X) → IsIn x xs → p x ≡ true) → list_all p xs ≡ true
list_all-from_members p [] each = refl
list_all-from_members p (x ∷ xs) each = and_from (p x) (list_all p xs) (each x (inl refl)) (list_all-from_members p xs (λ y h. each y (inr h)))

-- where no element passes, none is left
pub filter-none : {X : Type 0} (p : X → Bool) (xs : List X) → ((x : X) → IsIn x xs → p x ≡ false) → filter p xs ≡ []
filter-none p [] each = refl
filter-none p (x ∷ xs) each =
    ap (λ (b : Bool). cond b (x ∷ filter p xs) (filter p xs)) (each x (inl refl)) ∙ filter-none p xs (λ y h. each y (inr h))

-- between this form of membership and std's
pub IsIn-from_Contains : {X : Type 0} (xs : List X) (x : X) → Contains xs x → IsIn x xs
IsIn-from_Contains {X} xs x h = go xs h.0 h.1 h.2
  where
    go : (ys : List X) (k : ℕ) → k < length ys → get_or ys k x ≡ x → IsIn x ys
    go [] k l e = absurd (let l' : k < 0 = l in omega arith)
    go (y ∷ ys) zero l e = inl (sym e)
    go (y ∷ ys) (suc k) l e = inr (go ys k (omega arith) e)

pub Contains-from_IsIn : {X : Type 0} (xs : List X) (x : X) → IsIn x xs → Contains xs x
Contains-from_IsIn [] x h = absurd h
Contains-from_IsIn (y ∷ ys) x (inl e) = (0, omega arith, sym e)
Contains-from_IsIn (y ∷ ys) x (inr h) = let r = Contains-from_IsIn ys x h in (suc r.0, later r.0 r.1, r.2)
  where
    later : (k : ℕ) → k < length ys → suc k < suc (length ys)
    later k l = omega arith
