-- Elements each before, at or behind something, in that order: those at it stand together, behind those before
-- it. So do the rules of one start and those of one start and key.
use Rattle.std.proofs.Common.{◌≡◌, zero, suc, ◌-◌, inl, inr, refl, sym, ◌∙◌, ap, ℕ, ◌+◌, ◌<◌, ◌≤◌, List, [], ◌∷◌, length, get_or, take, drop, Bool, true, false, cond, arith, rules}
use Rattle.std.specs.Prelude.{filter}
use Rattle.std.specs.Ordering.{ordering_index, is_lt, is_eq}
use Rattle.std.specs.declared.cmp.Ordering.TheVariants.{Less, Equal, Greater}
use Rattle.std.specs.List.{prefix_len}
use Rattle.std.specs.List.Sorted.{IsNonDecreasingBy, IsPartitionedBy, IsPartitionPoint}
use Rattle.std.specs.declared.cmp.Ordering.{Ordering}
use Rattle.std.proofs.lemmas.Bool.{false≢true, cases_Bool}
use Rattle.std.proofs.lemmas.List.Sums.{prefix_len_is, prefix_len_stops}
use Rattle.std.proofs.lemmas.List.{get_or-drop, length-drop}
use Rattle.std.proofs.lemmas.List.Sorted.{searchable_from_sorted, IsNonDecreasingBy-drop}
use Rattle.partial_path.specs.declared.rule.Start.{Start}
use Rattle.partial_path.specs.Rules.{Rule}
use Rattle.partial_path.specs.Starts.{start_cmp, IsByStart, is_before, begins_at, rules_at}
use Rattle.partial_path.proofs.Orders.{start_cmp_total, start_eq_is}

-- none of the elements passes
pub filter_none : {X : Type 0} (q : X → Bool) (xs : List X) → ((k : ℕ) (d : X) → k < length xs → q (get_or xs k d) ≡ false) → filter q xs ≡ []
filter_none q [] none = refl
filter_none q (x ∷ xs) none =
    ap (λ b. cond b (x ∷ filter q xs) (filter q xs)) (none zero x (omega arith)) ∙ filter_none q xs (λ k d h. none (suc k) d (omega arith))

-- none behind one that fails passes
none_behind : {X : Type 0} (q : X → Bool) (x : X) (xs : List X) → IsPartitionedBy q (x ∷ xs) → q x ≡ false → (k : ℕ) (d : X) → k < length xs → q (get_or xs k d) ≡ false
none_behind q x xs parted e k d h = elim (cases_Bool (q (get_or xs k d)))
    [ inl passed ↦ absurd (false≢true (sym e ∙ parted zero (suc k) d (omega arith) (omega arith) passed)) | inr failed ↦ failed ]

-- those that pass stand first
pub filter_first : {X : Type 0} (q : X → Bool) (xs : List X) → IsPartitionedBy q xs → filter q xs ≡ take (prefix_len q xs) xs
filter_first q [] parted = refl
filter_first q (x ∷ xs) parted = first_case q x xs parted (q x) refl (filter_first q xs (λ i j d le h. parted (suc i) (suc j) d (omega arith) (omega arith)))
  where
    first_case : {X : Type 0} (q : X → Bool) (x : X) (xs : List X) → IsPartitionedBy q (x ∷ xs) → (b : Bool) → q x ≡ b → filter q xs ≡ take (prefix_len q xs) xs
        → filter q (x ∷ xs) ≡ take (prefix_len q (x ∷ xs)) (x ∷ xs)
    first_case q x xs parted true e rest =
        let more : 1 + prefix_len q xs ≡ suc (prefix_len q xs) = omega arith in
        ap (λ b. cond b (x ∷ filter q xs) (filter q xs)) e ∙ ap (λ ys. x ∷ ys) rest
        ∙ sym (ap (λ n. take n (x ∷ xs)) (ap (λ b. cond b (1 + prefix_len q xs) 0) e ∙ more))
    first_case q x xs parted false e rest =
        ap (λ b. cond b (x ∷ filter q xs) (filter q xs)) e ∙ filter_none q xs (λ k d h. none_behind q x xs parted e k d h)
        ∙ sym (ap (λ b. take (cond b (1 + prefix_len q xs) 0) (x ∷ xs)) e)

-- where those of p are none of q, the elements of q stand behind the first ones of p
filter_behind : {X : Type 0} (p q : X → Bool) → ((x : X) → p x ≡ true → q x ≡ false) → (xs : List X) → filter q xs ≡ filter q (drop (prefix_len p xs) xs)
filter_behind p q other [] = refl
filter_behind p q other (x ∷ xs) = behind_case p q other x xs (p x) refl (filter_behind p q other xs)
  where
    behind_case : {X : Type 0} (p q : X → Bool) → ((x : X) → p x ≡ true → q x ≡ false) → (x : X) (xs : List X) (b : Bool) → p x ≡ b → filter q xs ≡ filter q (drop (prefix_len p xs) xs)
        → filter q (x ∷ xs) ≡ filter q (drop (prefix_len p (x ∷ xs)) (x ∷ xs))
    behind_case p q other x xs true e rest =
        let more : 1 + prefix_len p xs ≡ suc (prefix_len p xs) = omega arith in
        ap (λ b. cond b (x ∷ filter q xs) (filter q xs)) (other x e) ∙ rest
        ∙ sym (ap (λ n. filter q (drop n (x ∷ xs))) (ap (λ b. cond b (1 + prefix_len p xs) 0) e ∙ more))
    behind_case p q other x xs false e rest = sym (ap (λ b. filter q (drop (cond b (1 + prefix_len p xs) 0) (x ∷ xs))) e)

-- where a search stops, of a test that holds first
pub prefix_from_point : {X : Type 0} (p : X → Bool) (xs : List X) (n : ℕ) → n ≤ length xs → IsPartitionPoint (λ y. p y ≡ true) (λ y. p y ≡ false) xs n → n ≡ prefix_len p xs
prefix_from_point p [] n le point = omega (arith, le)
prefix_from_point p (x ∷ xs) n le point =
    sym (prefix_len_is p (x ∷ xs) n x le (λ k h. point.0 k x (omega arith) h) (λ h. point.1 n x (omega arith) h))

before_is : (o : Ordering) → is_lt o ≡ true → ordering_index o ≡ 0
before_is Less e = refl
before_is Equal e = absurd (false≢true e)
before_is Greater e = absurd (false≢true e)

before_from : (o : Ordering) → ordering_index o ≡ 0 → is_lt o ≡ true
before_from Less e = refl
before_from Equal e = absurd (omega (arith, e))
before_from Greater e = absurd (omega (arith, e))

not_before : (o : Ordering) → is_lt o ≡ false → 0 < ordering_index o
not_before Less e = absurd (false≢true (sym e))
not_before Equal e = omega arith
not_before Greater e = omega arith

pub at_is : (o : Ordering) → is_eq o ≡ true → ordering_index o ≡ 1
at_is Less e = absurd (false≢true e)
at_is Equal e = refl
at_is Greater e = absurd (false≢true e)

at_from : (o : Ordering) → ordering_index o ≡ 1 → is_eq o ≡ true
at_from Less e = absurd (omega (arith, e))
at_from Equal e = refl
at_from Greater e = absurd (omega (arith, e))

pub before_not_at : (o : Ordering) → is_lt o ≡ true → is_eq o ≡ false
before_not_at Less e = refl
before_not_at Equal e = absurd (false≢true e)
before_not_at Greater e = refl

-- where each element is: 0 before, 1 at, 2 behind
module _ {X : Type 0} (c : X → Ordering) where
  abbrev pub side : X → ℕ
  side x = ordering_index (c x)

  abbrev pub before : X → Bool
  before x = is_lt (c x)

  abbrev pub there : X → Bool
  there x = is_eq (c x)

  pub parted_before : (xs : List X) → IsNonDecreasingBy side xs → IsPartitionedBy before xs
  parted_before xs up i j d le h e =
      let rise : side (get_or xs i d) ≤ side (get_or xs j d) = up i j d le h in
      let low : side (get_or xs j d) ≡ 0 = before_is _ e in
      before_from _ (omega (arith, rise, low))

  -- from the first that isn't before on, all are there or behind
  not_before_rest : (xs : List X) → IsNonDecreasingBy side xs → (k : ℕ) (d : X)
      → k < length (drop (prefix_len before xs) xs) → 0 < side (get_or (drop (prefix_len before xs) xs) k d)
  not_before_rest xs up k d h =
      let len : length (drop (prefix_len before xs) xs) ≡ length xs - prefix_len before xs = length-drop _ xs in
      let inside : prefix_len before xs + k < length xs = omega (arith, len, h) in
      let stop : 0 < side (get_or xs (prefix_len before xs) d) = not_before _ (prefix_len_stops before xs d (omega (arith, inside))) in
      let rise : side (get_or xs (prefix_len before xs) d) ≤ side (get_or xs (prefix_len before xs + k) d) = up _ _ d (omega arith) inside in
      let same : get_or (drop (prefix_len before xs) xs) k d ≡ get_or xs (prefix_len before xs + k) d = get_or-drop _ xs k d in
      let here : side (get_or (drop (prefix_len before xs) xs) k d) ≡ side (get_or xs (prefix_len before xs + k) d) = ap side same in
      omega (arith, stop, rise, here)

  pub parted_there : (xs : List X) → IsNonDecreasingBy side xs → IsPartitionedBy there (drop (prefix_len before xs) xs)
  parted_there xs up i j d le h e =
      let rise : side (get_or (drop (prefix_len before xs) xs) i d) ≤ side (get_or (drop (prefix_len before xs) xs) j d)
      = IsNonDecreasingBy-drop side (prefix_len before xs) xs up i j d le h in
      let at : side (get_or (drop (prefix_len before xs) xs) j d) ≡ 1 = at_is _ e in
      let low : 0 < side (get_or (drop (prefix_len before xs) xs) i d) = not_before_rest xs up i d (omega (arith, le, h)) in
      at_from _ (omega (arith, rise, at, low))

  pub there_is : (xs : List X) → IsNonDecreasingBy side xs
      → take (prefix_len there (drop (prefix_len before xs) xs)) (drop (prefix_len before xs) xs) ≡ filter there xs
  there_is xs up =
      sym (filter_behind before there (λ x e. before_not_at (c x) e) xs
      ∙ filter_first there (drop (prefix_len before xs) xs) (parted_there xs up))

-- tests that answer the same keep the same, and stop at the same place
pub filter_same : {X : Type 0} (p q : X → Bool) → ((x : X) → p x ≡ q x) → (xs : List X) → filter p xs ≡ filter q xs
filter_same p q same [] = refl
filter_same p q same (x ∷ xs) = (λ i. cond (same x i) (x ∷ filter p xs) (filter p xs)) ∙ ap (λ ys. cond (q x) (x ∷ ys) ys) (filter_same p q same xs)

prefix_len_same : {X : Type 0} (p q : X → Bool) → ((x : X) → p x ≡ q x) → (xs : List X) → prefix_len p xs ≡ prefix_len q xs
prefix_len_same p q same [] = refl
prefix_len_same p q same (x ∷ xs) = (λ i. cond (same x i) (1 + prefix_len p xs) 0) ∙ ap (λ n. cond (q x) (1 + n) 0) (prefix_len_same p q same xs)

-- how a rule's start stands to a start
abbrev pub start_side : Start → Rule → Ordering
start_side start rule = start_cmp rule.start start

pub starts_rise : (rules : List Rule) (start : Start) → IsByStart rules → IsNonDecreasingBy (side (start_side start)) rules
starts_rise rules start sorted = searchable_from_sorted start_cmp_total (λ r. r.start) rules start sorted

pub parted_at : (rules : List Rule) (start : Start) → IsByStart rules → IsPartitionedBy (begins_at start) (drop (prefix_len (is_before start) rules) rules)
parted_at rules start sorted i j d le h e =
    start_eq_is _ start ∙ parted_there (start_side start) rules (starts_rise rules start sorted) i j d le h (sym (start_eq_is _ start) ∙ e)

pub run_is : (rules : List Rule) (start : Start) → IsByStart rules
    → take (prefix_len (begins_at start) (drop (prefix_len (is_before start) rules) rules)) (drop (prefix_len (is_before start) rules) rules) ≡ rules_at start rules
run_is rules start sorted =
    let same : (rule : Rule) → begins_at start rule ≡ there (start_side start) rule = λ rule. start_eq_is rule.start start in
    ap (λ n. take n (drop (prefix_len (is_before start) rules) rules)) (prefix_len_same (begins_at start) (there (start_side start)) same (drop (prefix_len (is_before start) rules) rules))
    ∙ there_is (start_side start) rules (starts_rise rules start sorted)
    ∙ sym (filter_same (begins_at start) (there (start_side start)) same rules)
