-- Lists in which no element stands twice.
use Rattle.std.proofs.Common.{◌≡◌, ◌≢◌, Bool, List, [], ◌∷◌, ◌++◌, map, reverse, sym, refl, subst, inl, inr, filter, flat_map}
use Rattle.std.specs.List.{AllByRecursion}
use Rattle.list_facts.specs.Members.{IsIn}
use Rattle.list_facts.specs.Apart.{IsApart}
use Rattle.list_facts.proofs.Members.{IsIn-map_from, IsIn-reverse_from, IsIn-flat_map_from, reverse-cons, at_member, each_member}
use Rattle.list_facts.proofs.Pairs.{Pairs-append, Pairs-left, Pairs-swap, Pairs-across, Pairs-filter}

-- elements that differ
abbrev pub Differ : {X : Type 0} → X → X → Type 0
Differ x y = x ≢ y

-- an element that differs from each one isn't in the list, and the other way round
pub absent : {X : Type 0} (x : X) (xs : List X) → AllByRecursion (λ (y : X). x ≢ y) xs → IsIn x xs → ⊥
absent {X} x xs all h = at_member (λ (y : X). x ≢ y) x xs all h refl

pub all_differ : {X : Type 0} (x : X) (xs : List X) → (IsIn x xs → ⊥) → AllByRecursion (λ (y : X). x ≢ y) xs
all_differ {X} x xs out = each_member (λ (y : X). x ≢ y) xs (λ y h e. out (subst (λ z. IsIn z xs) (sym e) h))

-- two lists that share no element are apart together
pub IsApart-append : {X : Type 0} (xs ys : List X) → IsApart xs → IsApart ys → ((x : X) → IsIn x xs → IsIn x ys → ⊥) → IsApart (xs ++ ys)
IsApart-append {X} xs ys one two none =
    Pairs-append Differ xs ys one two (λ x y h k e. none y (subst (λ (z : X). IsIn z xs) e h) k)

pub IsApart-append_left : {X : Type 0} (xs ys : List X) → IsApart (xs ++ ys) → IsApart xs
IsApart-append_left xs ys h = Pairs-left Differ xs ys h

-- two lists that change places stay apart
pub IsApart-swap : {X : Type 0} (xs ys : List X) → IsApart (xs ++ ys) → IsApart (ys ++ xs)
IsApart-swap {X} xs ys h = Pairs-swap Differ (λ (x y : X) ne e. ne (sym e)) xs ys h

-- the last element of a list whose elements differ isn't one of those before it
pub IsApart-last : {X : Type 0} (xs : List X) (y : X) → IsApart (xs ++ y ∷ []) → IsIn y xs → ⊥
IsApart-last xs y h g = Pairs-across Differ xs (y ∷ []) h y y g (inl refl) refl

-- an element more that isn't there
pub IsApart_push : {X : Type 0} (xs : List X) (y : X) → IsApart xs → (IsIn y xs → ⊥) → IsApart (xs ++ y ∷ [])
IsApart_push {X} xs y h out = IsApart-append xs (y ∷ []) h (tt, tt) (λ x g e. only x g e)
  where
    only : (x : X) → IsIn x xs → IsIn x (y ∷ []) → ⊥
    only x g (inl e) = out (subst (λ z. IsIn z xs) e g)
    only x g (inr e) = e

-- images that differ where the elements do
pub IsApart-map : {X Y : Type 0} (f : X → Y) → ((a b : X) → f a ≡ f b → a ≡ b) → (xs : List X) → IsApart xs → IsApart (map f xs)
IsApart-map f same [] h = tt
IsApart-map f same (x ∷ xs) h = (
  all_differ (f x) (map f xs) (λ g. let r = IsIn-map_from f (f x) xs g in absent x xs h.0 (subst (λ z. IsIn z xs) (same r.0 x r.2) r.1)),
  IsApart-map f same xs h.1,
)

-- the elements that pass a test
pub IsApart-filter : {X : Type 0} (p : X → Bool) (xs : List X) → IsApart xs → IsApart (filter p xs)
IsApart-filter p xs h = Pairs-filter Differ p xs h

-- the list reversed
pub IsApart-reverse : {X : Type 0} (xs : List X) → IsApart xs → IsApart (reverse xs)
IsApart-reverse [] h = tt
IsApart-reverse (x ∷ xs) h =
    subst IsApart (sym (reverse-cons x xs))
    (IsApart_push (reverse xs) x (IsApart-reverse xs h.1) (λ g. absent x xs h.0 (IsIn-reverse_from x xs g)))

-- pieces that are apart, and of which no two share an element, are apart together
pub IsApart-flat_map : {X Y : Type 0} (f : X → List Y) (xs : List X) → IsApart xs → ((x : X) → IsIn x xs → IsApart (f x)) → ((x z : X) (y : Y) → IsIn x xs → IsIn z xs → IsIn y (f x) → IsIn y (f z) → x ≡ z) → IsApart (flat_map f xs)
IsApart-flat_map f [] h each share = tt
IsApart-flat_map f (x ∷ xs) h each share =
    IsApart-append (f x) (flat_map f xs) (each x (inl refl))
    (IsApart-flat_map f xs h.1 (λ z g. each z (inr g)) (λ a b y ga gb. share a b y (inr ga) (inr gb)))
    (λ y g1 g2. let r = IsIn-flat_map_from f y xs g2 in
    absent x xs h.0 (subst (λ w. IsIn w xs) (sym (share x r.0 y (inl refl) (inr r.1) g1 r.2)) r.1))

image_there : {X Y : Type 0} (f : X → Y) (x y : X) (xs : List X) → AllByRecursion (λ (z : Y). f x ≢ z) (map f xs) → IsIn y xs → f x ≡ f y → ⊥
image_there f x y (z ∷ xs) apart (inl h) e = apart.0 (subst (λ w. f x ≡ f w) h e)
image_there f x y (z ∷ xs) apart (inr h) e = image_there f x y xs apart.1 h e
image_there f x y [] apart h e = absurd h

-- of a list that has each image once, elements with the same image are the same
pub same_image : {X Y : Type 0} (f : X → Y) (xs : List X) (x y : X) → IsApart (map f xs) → IsIn x xs → IsIn y xs → f x ≡ f y → x ≡ y
same_image f [] x y apart h k e = absurd h
same_image f (z ∷ xs) x y apart (inl h) (inl k) e = subst (λ w. x ≡ w) (sym k) h
same_image f (z ∷ xs) x y apart (inl h) (inr k) e = absurd (image_there f z y xs apart.0 k (subst (λ w. f w ≡ f y) h e))
same_image f (z ∷ xs) x y apart (inr h) (inl k) e = absurd (image_there f z x xs apart.0 h (subst (λ w. f w ≡ f x) k (sym e)))
same_image f (z ∷ xs) x y apart (inr h) (inr k) e = same_image f xs x y apart.1 h k e
