-- Which paths of files stand in an index: those that pass, each once.
use Rattle.std.proofs.Common.{◌≡◌, ◌≢◌, refl, sym, ◌∙◌, ap, subst, ℕ, zero, suc, ◌+◌, List, [], ◌∷◌, Bool, true, false, cond, Some, arith, ◌⊎◌, inl, inr, slice_get, drop}
use Rattle.std.specs.List.{AllByRecursion}
use Rattle.std.specs.List.Sorted.{IsPermutation}
use Rattle.std.proofs.lemmas.List.Sorted.{Contains-permutation, IsPermutation-sym}
use Rattle.std.proofs.lemmas.Option.{none-some, same_Some}
use Rattle.list_facts.specs.Members.{IsIn}
use Rattle.list_facts.specs.Apart.{IsApart}
use Rattle.list_facts.proofs.Members.{IsIn-append_left, IsIn-append_right, IsIn-append_cases, IsIn-map, IsIn-map_from, IsIn-from_Contains, Contains-from_IsIn}
use Rattle.list_facts.proofs.Apart.{IsApart-append, IsApart-map}
use Rattle.partial_path.specs.Rules.{Rule}
use Rattle.partial_path.specs.PathSets.{FileRules}
use Rattle.partial_path.proofs.Reordered.{apart_reordered}
use Rattle.end_index.specs.declared.place.EndPlace.{EndPlace}
use Rattle.partial_path.specs.declared.end_table.EndMark.{EndMark}
use Rattle.partial_path.specs.Ends.{end_mark, end_marks}
use Rattle.end_index.specs.Ends.{end_place, ends_in, ends_after}

-- an element of a list stands at some place, and what stands at a place is an element

pub place_of : {X : Type 0} (x : X) (xs : List X) → IsIn x xs → (k : ℕ) × (slice_get xs k ≡ Some x)
place_of x [] h = absurd h
place_of x (y ∷ xs) (inl e) = (zero, ap Some (sym e))
place_of x (y ∷ xs) (inr h) = let r = place_of x xs h in (suc r.0, r.1)

pub at_place : {X : Type 0} (x : X) (xs : List X) (k : ℕ) → slice_get xs k ≡ Some x → IsIn x xs
at_place x [] k e = absurd (none-some x e)
at_place x (y ∷ xs) zero e = inl (sym (same_Some y x e))
at_place x (y ∷ xs) (suc k) e = inr (at_place x xs k e)

differs : {X : Type 0} (x y : X) (xs : List X) → AllByRecursion (λ (z : X). y ≢ z) xs → IsIn x xs → y ≡ x → ⊥
differs x y [] all h e = h
differs x y (z ∷ xs) all (inl h) e = all.0 (e ∙ h)
differs x y (z ∷ xs) all (inr h) e = differs x y xs all.1 h e

-- of a list whose elements differ, one element stands at one place
pub one_place : {X : Type 0} (x : X) (xs : List X) (i j : ℕ) → IsApart xs → slice_get xs i ≡ Some x → slice_get xs j ≡ Some x → i ≡ j
one_place x [] i j apart e f = absurd (none-some x e)
one_place x (y ∷ xs) zero zero apart e f = refl
one_place x (y ∷ xs) zero (suc j) apart e f = absurd (differs x y xs apart.0 (at_place x xs j f) (same_Some y x e))
one_place x (y ∷ xs) (suc i) zero apart e f = absurd (differs x y xs apart.0 (at_place x xs i e) (same_Some y x f))
one_place x (y ∷ xs) (suc i) (suc j) apart e f = ap suc (one_place x xs i j apart.1 e f)

-- the files from one of them on
pub file_first : (files : List FileRules) (i : ℕ) (f : FileRules) → slice_get files i ≡ Some f → drop i files ≡ f ∷ drop (i + 1) files
file_first [] i f found = absurd (none-some f found)
file_first (g ∷ files) zero f found = ap (λ h. h ∷ files) (same_Some g f found)
file_first (g ∷ files) (suc i) f found =
    let next : suc (i + 1) ≡ suc i + 1 = omega arith in file_first files i f found ∙ ap (λ n. f ∷ drop n (g ∷ files)) next

module _ (passes : Rule → Bool) where
  -- the mark tells of a path among the rules, of which the first has the place
  pub record IsMarkIn (place : ℕ) (rules : List Rule) (m : EndMark) : Type 0 where
    pub k : ℕ
    pub rule : Rule
    pub there : slice_get rules k ≡ Some rule
    pub passing : passes rule ≡ true
    pub is : m ≡ end_mark (place + k) rule

  one_of : (b : Bool) (x y : EndMark) → IsIn x (cond b (y ∷ []) []) → (b ≡ true) × (x ≡ y)
  one_of true x y (inl e) = (refl, e)
  one_of true x y (inr h) = absurd h
  one_of false x y h = absurd h

  mark_from : (place : ℕ) (rules : List Rule) (m : EndMark) → IsIn m (end_marks passes place rules) → IsMarkIn place rules m
  mark_from place [] m h = absurd h
  mark_from place (rule ∷ rules) m h =
      by (IsIn-append_cases m (cond (passes rule) (end_mark place rule ∷ []) []) (end_marks passes (place + 1) rules) h) (λ g. mark_from (place + 1) rules m g)
    where
      by : IsIn m (cond (passes rule) (end_mark place rule ∷ []) []) ⊎ IsIn m (end_marks passes (place + 1) rules)
          → (IsIn m (end_marks passes (place + 1) rules) → IsMarkIn (place + 1) rules m) → IsMarkIn place (rule ∷ rules) m
      by (inl g) on =
          let (passing, is) = one_of (passes rule) m (end_mark place rule) g in
          let here : place ≡ place + zero = omega arith in
          record { k = zero; rule = rule; there = refl; passing = passing; is = is ∙ ap (λ n. end_mark n rule) here }
      by (inr g) on =
          let r = on g in
          let next : (place + 1) + r.k ≡ place + suc r.k = omega arith in
          record { k = suc r.k; rule = r.rule; there = r.there; passing = r.passing; is = r.is ∙ ap (λ n. end_mark n r.rule) next }

  mark_into : (place : ℕ) (rules : List Rule) (k : ℕ) (rule : Rule) → slice_get rules k ≡ Some rule → passes rule ≡ true
      → IsIn (end_mark (place + k) rule) (end_marks passes place rules)
  mark_into place [] k rule there passing = absurd (none-some rule there)
  mark_into place (first ∷ rules) zero rule there passing =
      let same : first ≡ rule = same_Some first rule there in
      let here : place + zero ≡ place = omega arith in
      IsIn-append_left (end_mark (place + zero) rule) (cond (passes first) (end_mark place first ∷ []) []) (end_marks passes (place + 1) rules)
      (subst (λ (b : Bool). IsIn (end_mark (place + zero) rule) (cond b (end_mark place first ∷ []) [])) (sym (ap passes same ∙ passing))
      (inl (λ i. end_mark (here i) (sym same i))))
  mark_into place (first ∷ rules) (suc k) rule there passing =
      let next : (place + 1) + k ≡ place + suc k = omega arith in
      IsIn-append_right (end_mark (place + suc k) rule) (cond (passes first) (end_mark place first ∷ []) []) (end_marks passes (place + 1) rules)
      (subst (λ n. IsIn (end_mark n rule) (end_marks passes (place + 1) rules)) next (mark_into (place + 1) rules k rule there passing))

  marks_apart : (place : ℕ) (rules : List Rule) → IsApart (end_marks passes place rules)
  marks_apart place [] = tt
  marks_apart place (rule ∷ rules) =
      IsApart-append (cond (passes rule) (end_mark place rule ∷ []) []) (end_marks passes (place + 1) rules) (short (passes rule)) (marks_apart (place + 1) rules)
      (λ m here there.
      let one = one_of (passes rule) m (end_mark place rule) here in
      let r = mark_from (place + 1) rules m there in
      let a : m.place ≡ place = ap (λ (p : EndMark). p.place) one.1 in
      let b : m.place ≡ (place + 1) + r.k = ap (λ (p : EndMark). p.place) r.is in
      omega (arith, a, b))
    where
      short : (b : Bool) → IsApart (cond b (end_mark place rule ∷ []) [])
      short true = (tt, tt)
      short false = tt

  -- the path stands in a file of that number, among its rules
  pub record IsEndIn (file : ℕ) (rules : List Rule) (e : EndPlace) : Type 0 where
    pub k : ℕ
    pub rule : Rule
    pub there : slice_get rules k ≡ Some rule
    pub passing : passes rule ≡ true
    pub is : e ≡ end_place file (end_mark k rule)

  end_from : (file : ℕ) (rules : List Rule) (e : EndPlace) → IsIn e (ends_in passes file rules) → IsEndIn file rules e
  end_from file rules e h =
      let (mark, there, is) = IsIn-map_from (end_place file) e (end_marks passes 0 rules) h in
      let r = mark_from 0 rules mark there in
      let whole : 0 + r.k ≡ r.k = omega arith in
      record { k = r.k; rule = r.rule; there = r.there; passing = r.passing; is = sym is ∙ ap (end_place file) (r.is ∙ ap (λ n. end_mark n r.rule) whole) }

  end_into : (file : ℕ) (rules : List Rule) (k : ℕ) (rule : Rule) → slice_get rules k ≡ Some rule → passes rule ≡ true
      → IsIn (end_place file (end_mark k rule)) (ends_in passes file rules)
  end_into file rules k rule there passing =
      let whole : 0 + k ≡ k = omega arith in
      IsIn-map (end_place file) (end_mark k rule) (end_marks passes 0 rules)
      (subst (λ n. IsIn (end_mark n rule) (end_marks passes 0 rules)) whole (mark_into 0 rules k rule there passing))

  same_mark : (file : ℕ) (a b : EndMark) → end_place file a ≡ end_place file b → a ≡ b
  same_mark file a b e = λ i. record { key = (e i).key; place = (e i).place }

  apart_in : (file : ℕ) (rules : List Rule) → IsApart (ends_in passes file rules)
  apart_in file rules = IsApart-map (end_place file) (same_mark file) (end_marks passes 0 rules) (marks_apart 0 rules)

  -- the same of files of which the first has the number
  pub record IsEndOf (first : ℕ) (files : List FileRules) (e : EndPlace) : Type 0 where
    pub i : ℕ
    pub file : FileRules
    pub found : slice_get files i ≡ Some file
    pub here : IsEndIn (first + i) file.rules e

  pub end_of : (first : ℕ) (files : List FileRules) (e : EndPlace) → IsIn e (ends_after passes first files) → IsEndOf first files e
  end_of first [] e h = absurd h
  end_of first (f ∷ files) e h = by (IsIn-append_cases e (ends_in passes first f.rules) (ends_after passes (first + 1) files) h) (λ g. end_of (first + 1) files e g)
    where
      by : IsIn e (ends_in passes first f.rules) ⊎ IsIn e (ends_after passes (first + 1) files)
          → (IsIn e (ends_after passes (first + 1) files) → IsEndOf (first + 1) files e) → IsEndOf first (f ∷ files) e
      by (inl g) on =
          let none : first ≡ first + zero = omega arith in
          record { i = zero; file = f; found = refl; here = subst (λ n. IsEndIn n f.rules e) none (end_from first f.rules e g) }
      by (inr g) on =
          let r = on g in
          let next : (first + 1) + r.i ≡ first + suc r.i = omega arith in
          record { i = suc r.i; file = r.file; found = r.found; here = subst (λ n. IsEndIn n r.file.rules e) next r.here }

  pub of_end : (first : ℕ) (files : List FileRules) (i : ℕ) (file : FileRules) (k : ℕ) (rule : Rule) → slice_get files i ≡ Some file → slice_get file.rules k ≡ Some rule
      → passes rule ≡ true → IsIn (end_place (first + i) (end_mark k rule)) (ends_after passes first files)
  of_end first [] i file k rule found there passing = absurd (none-some file found)
  of_end first (f ∷ files) zero file k rule found there passing =
      let same : f ≡ file = same_Some f file found in
      let none : first ≡ first + zero = omega arith in
      IsIn-append_left (end_place (first + zero) (end_mark k rule)) (ends_in passes first f.rules) (ends_after passes (first + 1) files)
      (subst (λ n. IsIn (end_place n (end_mark k rule)) (ends_in passes first f.rules)) none
      (end_into first f.rules k rule (ap (λ (g : FileRules). slice_get g.rules k) same ∙ there) passing))
  of_end first (f ∷ files) (suc i) file k rule found there passing =
      let next : (first + 1) + i ≡ first + suc i = omega arith in
      IsIn-append_right (end_place (first + suc i) (end_mark k rule)) (ends_in passes first f.rules) (ends_after passes (first + 1) files)
      (subst (λ n. IsIn (end_place n (end_mark k rule)) (ends_after passes (first + 1) files)) next (of_end (first + 1) files i file k rule found there passing))

  apart_after : (first : ℕ) (files : List FileRules) → IsApart (ends_after passes first files)
  apart_after first [] = tt
  apart_after first (f ∷ files) =
      IsApart-append (ends_in passes first f.rules) (ends_after passes (first + 1) files) (apart_in first f.rules) (apart_after (first + 1) files)
      (λ e here there.
      let r = end_from first f.rules e here in
      let o = end_of (first + 1) files e there in
      let a : e.file ≡ first = ap (λ (p : EndPlace). p.file) r.is in
      let b : e.file ≡ (first + 1) + o.i = ap (λ (p : EndPlace). p.file) o.here.is in
      omega (arith, a, b))

  -- and of a list of them in another order
  module _ (files : List FileRules) (places : List EndPlace) (same : IsPermutation (ends_after passes 0 files) places) where
    pub kept_from : (e : EndPlace) → IsIn e places → IsEndOf 0 files e
    kept_from e h =
        end_of 0 files e (IsIn-from_Contains (ends_after passes 0 files) e
        (Contains-permutation places (ends_after passes 0 files) e (IsPermutation-sym (ends_after passes 0 files) places same) (Contains-from_IsIn places e h)))

    pub kept_into : (i : ℕ) (file : FileRules) (k : ℕ) (rule : Rule) → slice_get files i ≡ Some file → slice_get file.rules k ≡ Some rule → passes rule ≡ true
        → IsIn (end_place i (end_mark k rule)) places
    kept_into i file k rule found there passing =
        let whole : 0 + i ≡ i = omega arith in
        IsIn-from_Contains places (end_place i (end_mark k rule))
        (Contains-permutation (ends_after passes 0 files) places (end_place i (end_mark k rule)) same
        (Contains-from_IsIn (ends_after passes 0 files) (end_place i (end_mark k rule))
        (subst (λ n. IsIn (end_place n (end_mark k rule)) (ends_after passes 0 files)) whole (of_end 0 files i file k rule found there passing))))

    pub kept_apart : IsApart places
    kept_apart = apart_reordered (ends_after passes 0 files) places same (apart_after 0 files)
