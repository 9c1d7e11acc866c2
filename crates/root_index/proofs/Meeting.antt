-- How a key stands to the keys that the first of some texts make, the one longer than the other.
use Rattle.std.proofs.Common.{◌≡◌, refl, sym, ◌∙◌, ap, ℕ, zero, suc, ◌+◌, ◌-◌, ◌<◌, ◌≤◌, List, [], ◌∷◌, ◌++◌, length, take, drop, get_or, Bool, true, false, Option, None, Some, arith, slice_get}
use Rattle.std.specs.Option.{is_some, option_map, unwrap_or}
use Rattle.std.specs.Ordering.{nat_cmp, is_eq, ordering_then}
use Rattle.std.specs.declared.cmp.Ordering.{Ordering}
use Rattle.std.specs.declared.cmp.Ordering.TheVariants.{Less, Equal, Greater}
use Rattle.std.specs.Cmp.Lexicographic.{slice_cmp, texts_ties}
use Rattle.std.proofs.lemmas.Bool.{false≢true}
use Rattle.std.proofs.lemmas.Option.{none-some, same_Some, slice_get_within, get_or_from_slice_get}
use Rattle.std.proofs.Math.Seq.{take-suc}
use Rattle.std.proofs.Math.ListN.{drop_of_length-le}
use Rattle.std.proofs.lemmas.Slice.Eq.{bytes_eq-Decides}
use Rattle.partial_path.specs.Keys.{key_cmp}
use Rattle.partial_path.proofs.Standing.{equal_then}

less_is_not : {X : Type 0} → Greater ≡ Less → X
less_is_not e = absurd (false≢true (ap is_greater e))
  where
    is_greater : Ordering → Bool
    is_greater Less = true
    is_greater Equal = true
    is_greater Greater = false

equal_is_not : {X : Type 0} → Equal ≡ Less → X
equal_is_not e = absurd (false≢true (ap is_less e))
  where
    is_less : Ordering → Bool
    is_less Less = true
    is_less Equal = false
    is_less Greater = true

not_greater : {X : Type 0} → Equal ≡ Greater → X
not_greater e = absurd (false≢true (ap is_other e))
  where
    is_other : Ordering → Bool
    is_other Less = true
    is_other Equal = false
    is_other Greater = true

less_not_greater : {X : Type 0} → Less ≡ Greater → X
less_not_greater e = less_is_not (sym e)

-- where the first texts leave it to the others
then_less : (o p q : Ordering) → ordering_then o p ≡ Less → (p ≡ Less → q ≡ Less) → ordering_then o q ≡ Less
then_less Less p q e rest = refl
then_less Equal p q e rest = rest e
then_less Greater p q e rest = less_is_not e

then_greater : (o p q : Ordering) → ordering_then o p ≡ Greater → (p ≡ Greater → q ≡ Greater) → ordering_then o q ≡ Greater
then_greater Less p q e rest = less_not_greater e
then_greater Equal p q e rest = rest e
then_greater Greater p q e rest = refl

-- a key before that of some texts is before those of more
pub less_longer : (k t : List (List ℕ)) (a c : ℕ) → key_cmp k (take a t) ≡ Less → a ≤ c → key_cmp k (take c t) ≡ Less
less_longer [] [] zero c e h = equal_is_not e
less_longer [] [] (suc a) c e h = equal_is_not e
less_longer [] (y ∷ t) zero c e h = equal_is_not e
less_longer [] (y ∷ t) (suc a) zero e h = absurd (omega (arith, h))
less_longer [] (y ∷ t) (suc a) (suc c) e h = refl
less_longer (x ∷ k) [] zero c e h = less_is_not e
less_longer (x ∷ k) [] (suc a) c e h = less_is_not e
less_longer (x ∷ k) (y ∷ t) zero c e h = less_is_not e
less_longer (x ∷ k) (y ∷ t) (suc a) zero e h = absurd (omega (arith, h))
less_longer (x ∷ k) (y ∷ t) (suc a) (suc c) e h =
    then_less (slice_cmp nat_cmp x y) (key_cmp k (take a t)) (key_cmp k (take c t)) e (λ f. less_longer k t a c f (omega (arith, h)))

-- one behind that of some texts is behind those of fewer
pub greater_shorter : (k t : List (List ℕ)) (a c : ℕ) → key_cmp k (take c t) ≡ Greater → a ≤ c → key_cmp k (take a t) ≡ Greater
greater_shorter [] [] a zero e h = not_greater e
greater_shorter [] [] a (suc c) e h = not_greater e
greater_shorter [] (y ∷ t) a zero e h = not_greater e
greater_shorter [] (y ∷ t) a (suc c) e h = less_not_greater e
greater_shorter (x ∷ k) [] zero c e h = refl
greater_shorter (x ∷ k) [] (suc a) c e h = refl
greater_shorter (x ∷ k) (y ∷ t) zero c e h = refl
greater_shorter (x ∷ k) (y ∷ t) (suc a) zero e h = absurd (omega (arith, h))
greater_shorter (x ∷ k) (y ∷ t) (suc a) (suc c) e h =
    then_greater (slice_cmp nat_cmp x y) (key_cmp k (take c t)) (key_cmp k (take a t)) e (λ f. greater_shorter k t a c f (omega (arith, h)))

none_taken : (n : ℕ) → take {A = List ℕ} n [] ≡ []
none_taken zero = refl
none_taken (suc n) = refl

-- texts that begin alike are told apart by those that are left
pub same_start : (k t : List (List ℕ)) (i m : ℕ) → take i k ≡ take i t → i ≤ m → key_cmp k (take m t) ≡ key_cmp (drop i k) (take (m - i) (drop i t))
same_start k t zero m e h = let same : m ≡ m - 0 = omega arith in ap (λ n. key_cmp k (take n t)) same
same_start [] [] (suc i) m e h = ap (key_cmp []) (none_taken m ∙ sym (none_taken (m - suc i)))
same_start [] (y ∷ t) (suc i) m e h = let short : zero ≡ suc (length (take i t)) = ap length e in absurd (omega (arith, short))
same_start (x ∷ k) [] (suc i) m e h = let short : suc (length (take i k)) ≡ zero = ap length e in absurd (omega (arith, short))
same_start (x ∷ k) (y ∷ t) (suc i) zero e h = absurd (omega (arith, h))
same_start (x ∷ k) (y ∷ t) (suc i) (suc m) e h =
    let left : m - i ≡ suc m - suc i = omega arith in
    equal_then (slice_cmp nat_cmp x y) (key_cmp k (take m t)) (sym (texts_ties x y) ∙ (bytes_eq-Decides x y).1 (ap (λ l. get_or l zero x) e))
    ∙ same_start k t i m (ap (drop 1) e) (omega (arith, h))
    ∙ ap (λ n. key_cmp (drop i k) (take n (drop i t))) left

-- the text at a place, and then those behind it
text_first : (k : List (List ℕ)) (i : ℕ) (x : List ℕ) → slice_get k i ≡ Some x → drop i k ≡ x ∷ drop (suc i) k
text_first [] zero x e = absurd (none-some x e)
text_first [] (suc i) x e = absurd (none-some x e)
text_first (y ∷ k) zero x e = ap (λ z. z ∷ k) (ap (λ o. unwrap_or o y) e)
text_first (y ∷ k) (suc i) x e = text_first k i x e

-- where all texts before a place are the same, and the key has one more: it is behind theirs
pub met_longer : (k t : List (List ℕ)) (i : ℕ) (x : List ℕ) → take i k ≡ take i t → slice_get k i ≡ Some x → key_cmp k (take i t) ≡ Greater
met_longer k t i x e f =
    let none : i - i ≡ 0 = omega arith in
    same_start k t i i e (omega arith) ∙ (λ j. key_cmp (text_first k i x f j) (take (none j) (drop i t)))

-- it has none more: it is theirs
pub met_at : (k t : List (List ℕ)) (i : ℕ) → take i k ≡ take i t → length k ≤ i → is_eq (key_cmp k (take i t)) ≡ true
met_at k t i e h =
    let none : i - i ≡ 0 = omega arith in
    ap is_eq (same_start k t i i e (omega arith) ∙ (λ j. key_cmp (drop_of_length-le k h j) (take (none j) (drop i t))))

-- it has a lesser one
pub met_before : (k t : List (List ℕ)) (i : ℕ) (x y : List ℕ) → take i k ≡ take i t → slice_get k i ≡ Some x → slice_get t i ≡ Some y → slice_cmp nat_cmp x y ≡ Less
    → key_cmp k (take (i + 1) t) ≡ Less
met_before k t i x y e f g o =
    let one : i + 1 - i ≡ 1 = omega arith in
    same_start k t i (i + 1) e (omega arith) ∙ (λ j. key_cmp (text_first k i x f j) (take (one j) (text_first t i y g j)))
    ∙ ap (λ r. ordering_then r (key_cmp (drop (suc i) k) [])) o

-- it has a greater one
pub met_behind : (k t : List (List ℕ)) (i m : ℕ) (x y : List ℕ) → take i k ≡ take i t → slice_get k i ≡ Some x → slice_get t i ≡ Some y → slice_cmp nat_cmp x y ≡ Greater
    → i < m → key_cmp k (take m t) ≡ Greater
met_behind k t i m x y e f g o h =
    let more : m - i ≡ suc (m - (i + 1)) = omega (arith, h) in
    same_start k t i m e (omega (arith, h)) ∙ (λ j. key_cmp (text_first k i x f j) (take (more j) (text_first t i y g j)))
    ∙ ap (λ r. ordering_then r (key_cmp (drop (suc i) k) (take (m - (i + 1)) (drop (suc i) t)))) o

-- it has the same one
pub met_alike : (k t : List (List ℕ)) (i : ℕ) (x y : List ℕ) → take i k ≡ take i t → slice_get k i ≡ Some x → slice_get t i ≡ Some y → slice_cmp nat_cmp x y ≡ Equal
    → take (i + 1) k ≡ take (i + 1) t
met_alike k t i x y e f g o =
    let next : i + 1 ≡ suc i = omega arith in
    let same : x ≡ y = (bytes_eq-Decides x y).0 (texts_ties x y ∙ ap is_eq o) in
    ap (λ n. take n k) next ∙ take-suc k i x (slice_get_within k i x f)
    ∙ (λ j. e j ++ (get_or_from_slice_get k i x x f ∙ same ∙ sym (get_or_from_slice_get t i y x g)) j ∷ [])
    ∙ sym (take-suc t i x (slice_get_within t i y g)) ∙ sym (ap (λ n. take n t) next)

-- a text that stands so to another is there
pub record StandsAt (k : List (List ℕ)) (i : ℕ) (w : List ℕ) (r : Ordering) : Type 0 where
  pub text : List ℕ
  pub there : slice_get k i ≡ Some text
  pub side : slice_cmp nat_cmp text w ≡ r

pub text_there : (k : List (List ℕ)) (i : ℕ) (w : List ℕ) (r : Ordering) → option_map (λ (t : List ℕ). slice_cmp nat_cmp t w) (slice_get k i) ≡ Some r → StandsAt k i w r
text_there k i w r e = by (slice_get k i) refl e
  where
    by : (o : Option (List ℕ)) → slice_get k i ≡ o → option_map (λ (t : List ℕ). slice_cmp nat_cmp t w) o ≡ Some r → StandsAt k i w r
    by None is f = absurd (none-some r f)
    by (Some t) is f = record { text = t; there = is; side = same_Some (slice_cmp nat_cmp t w) r f }

pub some_text : (k : List (List ℕ)) (i : ℕ) → is_some (slice_get k i) ≡ true → (text : List ℕ) × (slice_get k i ≡ Some text)
some_text k i e = by (slice_get k i) refl e
  where
    by : (o : Option (List ℕ)) → slice_get k i ≡ o → is_some o ≡ true → (text : List ℕ) × (slice_get k i ≡ Some text)
    by None is f = absurd (false≢true f)
    by (Some t) is f = (t, is)
