-- Files dealt out to shares, so many to each, and files that have changed put anew: of how many files an index has the marks.
use Rattle.std.proofs.Common.{◌≡◌, refl, sym, ◌∙◌, ap, subst, ℕ, zero, suc, ◌+◌, ◌-◌, ◌*◌, ◌/◌, ◌<◌, ◌≤◌, List, [], ◌∷◌, ◌++◌, Bool, length, map, take, drop, set, Some, arith, slice_get, append-nil}
use Rattle.std.specs.Option.{option_map}
use Rattle.std.proofs.lemmas.List.{length-append, length-drop, length-map, length-take, length-set}
use Rattle.std.proofs.lemmas.Option.{none-some, same_Some, slice_get-map}
use Rattle.partial_path.specs.declared.end_table.EndMark.{EndMark}
use Rattle.partial_path.specs.Rules.{Rule}
use Rattle.partial_path.specs.PathSets.{FileRules}
use Rattle.version_tree.specs.Contents.{FileRow}
use Rattle.root_index.specs.Offers.{files_of}
use Rattle.end_index.specs.declared.place.EndPlace.{EndPlace}
use Rattle.end_index.specs.Ends.{IsPartAt, IsSideOf, PartView, SideView, end_place, marks_in, marks_of, placed}
use Rattle.end_index.specs.Shares.{AreFirst, HasFirst, IsPartOf, first_of, marks_between}
use Rattle.end_index.proofs.Fitted.{placed-append}

-- the first elements of a list, and some behind them

take_none : {X : Type 0} (n : ℕ) → take {A = X} n [] ≡ []
take_none zero = refl
take_none (suc n) = refl

take_on : {X : Type 0} (a b : ℕ) (xs : List X) → take a xs ++ take b (drop a xs) ≡ take (a + b) xs
take_on zero b xs = let whole : 0 + b ≡ b = omega arith in ap (λ n. take n xs) (sym whole)
take_on (suc a) b [] = take_none b ∙ sym (take_none (suc a + b))
take_on (suc a) b (x ∷ xs) = let next : suc (a + b) ≡ suc a + b = omega arith in ap (λ ys. x ∷ ys) (take_on a b xs) ∙ ap (λ n. take n (x ∷ xs)) next

take_one : {X : Type 0} (n : ℕ) (x : X) (xs : List X) → slice_get xs n ≡ Some x → take (n + 1) xs ≡ take n xs ++ x ∷ []
take_one n x [] e = absurd (none-some x e)
take_one zero x (y ∷ xs) e = ap (λ z. z ∷ []) (same_Some y x e)
take_one (suc n) x (y ∷ xs) e = let next : suc (n + 1) ≡ suc n + 1 = omega arith in sym (ap (λ m. take m (y ∷ xs)) next) ∙ ap (λ ys. y ∷ ys) (take_one n x xs e)

get_drop : {X : Type 0} (from n : ℕ) (x : X) (xs : List X) → slice_get xs (from + n) ≡ Some x → slice_get (drop from xs) n ≡ Some x
get_drop zero n x xs e = let whole : 0 + n ≡ n = omega arith in ap (slice_get xs) (sym whole) ∙ e
get_drop (suc from) n x [] e = absurd (none-some x e)
get_drop (suc from) n x (y ∷ xs) e = let next : suc (from + n) ≡ suc from + n = omega arith in get_drop from n x xs (ap (slice_get (y ∷ xs)) next ∙ e)

take_all : {X : Type 0} (n : ℕ) (xs : List X) → length xs ≤ n → take n xs ≡ xs
take_all n [] h = take_none n
take_all zero (x ∷ xs) h = absurd (omega arith)
take_all (suc n) (x ∷ xs) h = ap (λ ys. x ∷ ys) (take_all n xs (omega (arith, h)))

take_set : {X : Type 0} (n : ℕ) (x : X) (xs : List X) → take n (set xs n x) ≡ take n xs
take_set n x [] = refl
take_set zero x (y ∷ xs) = refl
take_set (suc n) x (y ∷ xs) = ap (λ ys. y ∷ ys) (take_set n x xs)

get_set : {X : Type 0} (n : ℕ) (x : X) (xs : List X) → n < length xs → slice_get (set xs n x) n ≡ Some x
get_set n x [] h = absurd (omega arith)
get_set zero x (y ∷ xs) h = refl
get_set (suc n) x (y ∷ xs) h = get_set n x xs (omega arith)

-- how many files stand before those of a share

count_of : (passes : Rule → Bool) (view : List FileRow) → length (marks_of passes (files_of view)) ≡ length view
count_of passes view = length-map (files_of view) (marks_in passes) ∙ length-map view (λ (row : FileRow). row.file)

one_more_share : (share step : ℕ) → (share + 1) * step ≡ share * step + step
one_more_share share step = grind (arith)

pub bounds_rise : (view : List FileRow) (step share : ℕ) → first_of view step share ≤ first_of view step (share + 1)
bounds_rise view step share = omega (arith, one_more_share share step)

pub bounds_end : (view : List FileRow) (step shares : ℕ) → length view ≤ shares * step → first_of view step shares ≡ length view
bounds_end view step shares h = omega (arith, h)

pub enough_shares : (count threads : ℕ) → 0 < threads → count ≤ threads * (count / threads + 1)
enough_shares count threads some = grind (arith, some)

-- a file more in a part
pub file_added : (passes : Rule → Bool) (view : List FileRow) (from file : ℕ) (f : FileRules) (old new : PartView) (marks : List EndMark) → from ≤ file
    → slice_get (files_of view) file ≡ Some f → marks ≡ marks_in passes f → old.marks ≡ marks_between passes view from file → old.places ≡ placed from old.marks
    → new.marks ≡ old.marks ++ marks ∷ [] → new.places ≡ old.places ++ map (end_place file) marks
    → (new.marks ≡ marks_between passes view from (file + 1)) × (new.places ≡ placed from new.marks)
file_added passes view from file f old new marks low found is before told more placed_more =
    let ms : List (List EndMark) = marks_of passes (files_of view) in
    let here : from + (file - from) ≡ file = omega (arith, low) in
    let there : slice_get ms file ≡ Some marks = slice_get-map (marks_in passes) (files_of view) file ∙ ap (option_map (marks_in passes)) found ∙ ap Some (sym is) in
    let last : slice_get (drop from ms) (file - from) ≡ Some marks = get_drop from (file - from) marks ms (ap (slice_get ms) here ∙ there) in
    let next : (file - from) + 1 ≡ (file + 1) - from = omega (arith, low) in
    let inside : file < length ms = below ms file marks there in
    let size : from + length old.marks ≡ file = omega (arith, low, inside, ap length before, length-take (file - from) (drop from ms), length-drop from ms) in (
      more ∙ ap (λ (xs : List (List EndMark)). xs ++ marks ∷ []) before ∙ sym (take_one (file - from) marks (drop from ms) last) ∙ ap (λ n. take n (drop from ms)) next,
      placed_more ∙ ap (λ (ps : List EndPlace). ps ++ map (end_place file) marks) told
          ∙ ap (λ (ps : List EndPlace). placed from old.marks ++ ps) (sym (append-nil (map (end_place file) marks)))
          ∙ ap (λ n. placed from old.marks ++ (map (end_place n) marks ++ [])) (sym size)
          ∙ sym (placed-append from old.marks (marks ∷ [])) ∙ ap (placed from) (sym more),
    )
  where
    below : {X : Type 0} (xs : List X) (n : ℕ) (x : X) → slice_get xs n ≡ Some x → n < length xs
    below [] n x e = absurd (none-some x e)
    below (y ∷ xs) zero x e = omega arith
    below (y ∷ xs) (suc n) x e = let less = below xs n x e in omega (arith, less)

-- a part more in a side
pub part_fits : (passes : Rule → Bool) (view : List FileRow) (from to : ℕ) (side : SideView) (part : PartView) → from ≤ length view → AreFirst passes view from side
    → IsPartOf passes view from to part → IsPartAt (length side.marks) part
part_fits passes view from to side part low first of =
    let size : from ≡ length side.marks = omega (arith, low, ap length first, length-take from (marks_of passes (files_of view)), count_of passes view) in
    subst (λ n. IsPartAt n part) size of.at

pub part_added : (passes : Rule → Bool) (view : List FileRow) (from to : ℕ) (old new : SideView) (part : PartView) → from ≤ to → AreFirst passes view from old
    → IsPartOf passes view from to part → new.marks ≡ old.marks ++ part.marks → AreFirst passes view to new
part_added passes view from to old new part low first of more =
    let whole : from + (to - from) ≡ to = omega (arith, low) in
    more ∙ (λ i. first i ++ of.marks i) ∙ take_on from (to - from) (marks_of passes (files_of view)) ∙ ap (λ n. take n (marks_of passes (files_of view))) whole

pub all_first : (passes : Rule → Bool) (view : List FileRow) (to : ℕ) (side : SideView) → to ≡ length view → AreFirst passes view to side → IsSideOf passes (files_of view) side
all_first passes view to side whole first =
    first ∙ take_all to (marks_of passes (files_of view)) (omega (arith, whole, count_of passes view))

-- files that have changed put anew, one by one

next_same : {X : Type 0} (n : ℕ) (x : X) (xs ys : List X) → slice_get xs n ≡ Some x → slice_get ys n ≡ Some x → take n xs ≡ take n ys → take (n + 1) xs ≡ take (n + 1) ys
next_same n x xs ys a b e = take_one n x xs a ∙ ap (λ zs. zs ++ x ∷ []) e ∙ sym (take_one n x ys b)

module _ (passes : Rule → Bool) (view : List FileRow) (file : ℕ) (f : FileRules) (found : slice_get (files_of view) file ≡ Some f) where
  there : slice_get (marks_of passes (files_of view)) file ≡ Some (marks_in passes f)
  there = slice_get-map (marks_in passes) (files_of view) file ∙ ap (option_map (marks_in passes)) found

  pub kept_more : (side : SideView) → HasFirst passes view file side → slice_get side.marks file ≡ Some (marks_in passes f) → HasFirst passes view (file + 1) side
  kept_more side has same = record {
    count = has.count;
    first = next_same file (marks_in passes f) side.marks (marks_of passes (files_of view)) same there has.first;
  }

  pub put_more : (old new : SideView) → file < length view → HasFirst passes view file old → new.marks ≡ set old.marks file (marks_in passes f) → HasFirst passes view (file + 1) new
  put_more old new inside has is = record {
    count = ap length is ∙ length-set old.marks file (marks_in passes f) ∙ has.count;
    first = ap (take (file + 1)) is
        ∙ next_same file (marks_in passes f) (set old.marks file (marks_in passes f)) (marks_of passes (files_of view))
        (get_set file (marks_in passes f) old.marks (omega (arith, inside, has.count))) there (take_set file (marks_in passes f) old.marks ∙ has.first);
  }

pub all_put : (passes : Rule → Bool) (view : List FileRow) (file : ℕ) (side : SideView) → length view ≤ file → HasFirst passes view file side → IsSideOf passes (files_of view) side
all_put passes view file side past has =
    sym (take_all file side.marks (omega (arith, past, has.count))) ∙ has.first ∙ take_all file (marks_of passes (files_of view)) (omega (arith, past, count_of passes view))

-- behind the last one so many came as there are
pub all_came : {X : Type 0} (done rest all : List X) (place : ℕ) → length rest ≡ 0 → done ++ rest ≡ all → place ≡ length done → place ≡ length all
all_came done rest all place none whole here = omega (arith, none, here, ap length whole, length-append done rest)
