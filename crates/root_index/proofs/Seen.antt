-- What a look-up in an index offers to a user is what the files that the user sees offer, in another order.
use Rattle.std.proofs.Common.{◌≡◌, refl, sym, ◌∙◌, ap, subst, ℕ, zero, suc, ◌+◌, ◌<◌, List, [], ◌∷◌, ◌++◌, ◌≤◌, length, map, take, get_or, slice_get, Bool, true, false, cond, Option, Some, None, arith}
use Rattle.std.specs.Prelude.{filter, ◌&&◌, ◌||◌, IfSome, MatchOption}
use Rattle.std.specs.List.{AllByRecursion, flat_map, swap}
use Rattle.std.specs.List.Sorted.{IsPermutation}
use Rattle.std.specs.Option.{option_map_or, unwrap_or}
use Rattle.std.specs.Ordering.{is_eq}
use Rattle.std.specs.declared.cmp.Ordering.{Ordering}
use Rattle.std.specs.declared.cmp.Ordering.TheVariants.{Less, Equal, Greater}
use Rattle.std.proofs.Math.ListN.{set}
use Rattle.std.proofs.lemmas.Bool.{false≢true}
use Rattle.std.proofs.lemmas.Cmp.{nat_list_cmp_total, tied_itself}
use Rattle.std.proofs.lemmas.Map.Text.{is_eq-slice_cmp}
use Rattle.std.proofs.lemmas.Slice.Eq.{bytes_eq-Decides}
use Rattle.std.proofs.lemmas.Grind.{flat_map-append}
use Rattle.std.proofs.lemmas.List.{append_assoc, length-append, map_more}
use Rattle.std.proofs.lemmas.List.Edits.{swap_is}
use Rattle.std.proofs.lemmas.List.Sorted.{IsPermutation-refl, IsPermutation-sym, IsPermutation-trans, IsPermutation-append_left, IsPermutation-append_right, IsPermutation-append_comm, IsPermutation-keeps}
use Rattle.std.proofs.lemmas.Option.{get_or_from_slice_get, none-some, slice_get_within}
use Rattle.stacks_vars.specs.declared.items.SymbolItem.{SymbolItem}
use Rattle.partial_path.specs.declared.config.Spot.TheVariants as spot
use Rattle.partial_path.specs.declared.rule.Start.{Start}
use Rattle.partial_path.specs.declared.rule.Start.TheVariants.{Before, After}
use Rattle.partial_path.specs.Rules.{Rule}
use Rattle.partial_path.specs.Starts.{start_eq, begins_at}
use Rattle.partial_path.specs.Moved.{moved_start}
use Rattle.partial_path.specs.Keys.{key}
use Rattle.partial_path.specs.Sources.{numbered, stand_first, is_offered_in, rules_offered_after}
use Rattle.grants.specs.Covers.{covers}
use Rattle.version_tree.specs.Contents.{FileRow, path_cmp, IsInOrder, has_path}
use Rattle.version_tree.specs.Limits.{max_files}
use Rattle.version_tree.specs.Views.{path_at}
use Rattle.root_index.specs.Roots.{RootPath, root, root_path, roots_from, roots_of, all_roots, IsIndexOfView}
use Rattle.root_index.specs.Offers.{number_from, number_in, seen, asks, files_of, roots_offered}
use Rattle.root_index.specs.SeenFiles.{AreSeenFiles}

-- lists that are joined, in another order
fronts : {Y : Type 0} (xs ys zs : List Y) → IsPermutation (xs ++ (ys ++ zs)) (ys ++ (xs ++ zs))
fronts xs ys zs =
    subst (λ ps. IsPermutation ps (ys ++ (xs ++ zs))) (append_assoc xs ys zs)
    (subst (λ ps. IsPermutation ((xs ++ ys) ++ zs) ps) (append_assoc ys xs zs)
    (IsPermutation-append_left zs (xs ++ ys) (ys ++ xs) (IsPermutation-append_comm xs ys)))

-- an element put in another's place
put_out : {X Y : Type 0} (f : X → List Y) (xs : List X) (i : ℕ) (y d : X) → i < length xs
    → IsPermutation (f (get_or xs i d) ++ flat_map f (set xs i y)) (f y ++ flat_map f xs)
put_out f [] i y d h = absurd (omega (arith, h))
put_out f (x ∷ xs) zero y d h = fronts (f x) (f y) (flat_map f xs)
put_out f (x ∷ xs) (suc i) y d h =
    IsPermutation-trans (f (get_or xs i d) ++ (f x ++ flat_map f (set xs i y))) (f x ++ (f (get_or xs i d) ++ flat_map f (set xs i y))) (f y ++ (f x ++ flat_map f xs))
    (fronts (f (get_or xs i d)) (f x) (flat_map f (set xs i y)))
    (IsPermutation-trans (f x ++ (f (get_or xs i d) ++ flat_map f (set xs i y))) (f x ++ (f y ++ flat_map f xs)) (f y ++ (f x ++ flat_map f xs))
    (IsPermutation-append_right (f x) (f (get_or xs i d) ++ flat_map f (set xs i y)) (f y ++ flat_map f xs) (put_out f xs i y d (omega (arith, h))))
    (fronts (f x) (f y) (flat_map f xs)))

-- two elements in each other's place
both_out : {X Y : Type 0} (f : X → List Y) (xs : List X) (i j : ℕ) (d : X) → i < length xs → j < length xs
    → IsPermutation (flat_map f xs) (flat_map f (set (set xs i (get_or xs j d)) j (get_or xs i d)))
both_out f [] i j d h k = absurd (omega (arith, h))
both_out f (x ∷ xs) zero zero d h k = IsPermutation-refl (f x ++ flat_map f xs)
both_out f (x ∷ xs) zero (suc j) d h k =
    IsPermutation-sym (f (get_or xs j d) ++ flat_map f (set xs j x)) (f x ++ flat_map f xs) (put_out f xs j x d (omega (arith, k)))
both_out f (x ∷ xs) (suc i) zero d h k =
    IsPermutation-sym (f (get_or xs i d) ++ flat_map f (set xs i x)) (f x ++ flat_map f xs) (put_out f xs i x d (omega (arith, h)))
both_out f (x ∷ xs) (suc i) (suc j) d h k =
    IsPermutation-append_right (f x) (flat_map f xs) (flat_map f (set (set xs i (get_or xs j d)) j (get_or xs i d)))
    (both_out f xs i j d (omega (arith, h)) (omega (arith, k)))

swapped_out : {X Y : Type 0} (f : X → List Y) (xs : List X) (i j : ℕ) → i < length xs → j < length xs
    → IsPermutation (flat_map f xs) (flat_map f (swap xs i j))
swapped_out f [] i j h k = absurd (omega (arith, h))
swapped_out f (x ∷ xs) i j h k =
    subst (λ ys. IsPermutation (flat_map f (x ∷ xs)) (flat_map f ys)) (swap_is (x ∷ xs) i j x h k) (both_out f (x ∷ xs) i j x h k)

-- what the elements give, the elements in another order
pub given_in_any_order : {X Y : Type 0} (f : X → List Y) (xs ys : List X) → IsPermutation xs ys → IsPermutation (flat_map f xs) (flat_map f ys)
given_in_any_order f xs ys same =
    IsPermutation-keeps xs (λ zs. IsPermutation (flat_map f xs) (flat_map f zs)) (IsPermutation-refl (flat_map f xs))
    (λ zs i j h k so_far. IsPermutation-trans (flat_map f xs) (flat_map f zs) (flat_map f (swap zs i j)) so_far (swapped_out f zs i j h k)) ys same

-- what those that pass give
given_where : {X Y : Type 0} (p : X → Bool) (f : X → List Y) (xs : List X) → flat_map f (filter p xs) ≡ flat_map (λ x. cond (p x) (f x) []) xs
given_where p f [] = refl
given_where {X} {Y} p f (x ∷ xs) = one (p x) (filter p xs) ∙ ap (λ ys. cond (p x) (f x) [] ++ ys) (given_where p f xs)
  where
    one : (b : Bool) (ys : List X) → flat_map f (cond b (x ∷ ys) ys) ≡ cond b (f x) [] ++ flat_map f ys
    one true ys = refl
    one false ys = refl

-- the number of a file in a view
some_is : {X : Type 0} (x y : X) → Some x ≡ Some y → x ≡ y
some_is x y e = ap (λ o. unwrap_or o x) e

later_path : (p path : List ℕ) (rows : List FileRow) (k : ℕ) → AllByRecursion (λ (later : FileRow). path_cmp p later.path ≡ Less) rows
    → path_at rows k ≡ Some path → path_cmp p path ≡ Less
later_path p path [] zero less e = absurd (none-some path e)
later_path p path [] (suc k) less e = absurd (none-some path e)
later_path p path (row ∷ rows) zero less e = subst (λ q. path_cmp p q ≡ Less) (some_is row.path path e) less.0
later_path p path (row ∷ rows) (suc k) less e = later_path p path rows k less.1 e

pub number_of_place : (rows : List FileRow) (n k : ℕ) (path : List ℕ) → IsInOrder rows → path_at rows k ≡ Some path → number_from n path rows ≡ Some (n + k)
number_of_place [] n zero path order e = absurd (none-some path e)
number_of_place [] n (suc k) path order e = absurd (none-some path e)
number_of_place (row ∷ rows) n zero path order e =
    let tie : path_cmp row.path path ≡ Equal = subst (λ q. path_cmp row.path q ≡ Equal) (some_is row.path path e) (tied_itself nat_list_cmp_total row.path) in
    let same : n ≡ n + 0 = omega arith in
    ap (λ o. cond (is_eq o) (Some n) (number_from (n + 1) path rows)) tie ∙ ap Some same
number_of_place (row ∷ rows) n (suc k) path order e =
    let next : (n + 1) + k ≡ n + suc k = omega arith in
    ap (λ o. cond (is_eq o) (Some n) (number_from (n + 1) path rows)) (later_path row.path path rows k order.0 e)
    ∙ number_of_place rows (n + 1) k path order.1 e ∙ ap Some next

or_none : (a b : Bool) → a || b ≡ false → (a ≡ false) × (b ≡ false)
or_none true b e = absurd (false≢true (sym e))
or_none false b e = (refl, e)

pub no_number : (rows : List FileRow) (n : ℕ) (path : List ℕ) → has_path path rows ≡ false → number_from n path rows ≡ None
no_number [] n path e = refl
no_number (row ∷ rows) n path e =
    let none = or_none (is_eq (path_cmp row.path path)) (has_path path rows) e in
    ap (λ b. cond b (Some n) (number_from (n + 1) path rows)) none.0 ∙ no_number rows (n + 1) path none.1

-- the number that halving finds
pub number_is : (view : List FileRow) (path : List ℕ) (found : Option ℕ) → IsInOrder view
    → MatchOption found (has_path path view ≡ false) (λ n. path_at view n ≡ Some path) → found ≡ number_in view path
number_is view path None order e = sym (no_number view 0 path e)
number_is view path (Some n) order e =
    let from_none : 0 + n ≡ n = omega arith in
    sym (number_of_place view 0 n path order e ∙ ap Some from_none)

-- it is below the number of rows
pub path_within : (rows : List FileRow) (k : ℕ) (path : List ℕ) → path_at rows k ≡ Some path → k < length rows
path_within [] zero path e = absurd (none-some path e)
path_within [] (suc k) path e = absurd (none-some path e)
path_within (row ∷ rows) zero path e = omega arith
path_within (row ∷ rows) (suc k) path e = let inside : k < length rows = path_within rows k path e in omega (arith, inside)

pub number_few : (view : List FileRow) (path : List ℕ) (found : Option ℕ) → length view ≤ max_files
    → MatchOption found (has_path path view ≡ false) (λ n. path_at view n ≡ Some path) → IfSome found (λ (n : ℕ). n < max_files)
number_few view path None few e = tt
number_few view path (Some n) few e = let inside : n < length view = path_within view n path e in omega (arith, inside, few)

-- a table of the paths so far, with the number of one more
pub table_more : (files : List (Option ℕ)) (paths : List RootPath) (view : List FileRow) (k : ℕ) (p : RootPath) (found : Option ℕ)
    → AreSeenFiles (take k paths) view files → slice_get paths k ≡ Some p → found ≡ number_in view p.path
    → AreSeenFiles (take (k + 1) paths) view (files ++ found ∷ [])
table_more files paths view k p found are here is =
    let number = λ (q : RootPath). number_in view q.path in
    (λ i. are i ++ (is ∙ ap number (sym (get_or_from_slice_get paths k p p here))) i ∷ [])
    ∙ sym (map_more number paths k p (slice_get_within paths k p here))

-- what a path gives to a look-up
abbrev given : List FileRow → List SymbolItem → RootPath → List (ℕ × Rule)
given view symbols p = cond (asks symbols p) (seen view p) []

-- the rules of a file with that number that are offered, none of a file that has none
abbrev in_row : Option ℕ → List SymbolItem → List Rule → List (ℕ × Rule)
in_row None symbols rules = []
in_row (Some n) symbols rules = map (numbered n) (filter (is_offered_in n root symbols) rules)

-- a start is the root where it is the root in another file
pub root_moved : (n : ℕ) (start : Start) → start_eq start root ≡ start_eq (moved_start n start) root
root_moved n (Before node) = refl
root_moved n (After spot.Root) = refl
root_moved n (After (spot.At node)) = refl

one_given : (b s : Bool) (n : ℕ) (rule : Rule) (rest : List Rule)
    → cond b (cond s (numbered n rule ∷ []) []) [] ++ map (numbered n) rest ≡ map (numbered n) (cond (b && s) (rule ∷ rest) rest)
one_given true true n rule rest = refl
one_given true false n rule rest = refl
one_given false s n rule rest = refl

abbrev nothing : List (ℕ × Rule)
nothing = []

none_given : (b s : Bool) → cond b (cond s nothing nothing) nothing ++ nothing ≡ nothing
none_given true true = refl
none_given true false = refl
none_given false s = refl

first_given : {X Y : Type 0} (f : X → List Y) (b : Bool) (x : X) (xs : List X) → flat_map f (cond b (x ∷ []) [] ++ xs) ≡ cond b (f x) [] ++ flat_map f xs
first_given f true x xs = refl
first_given f false x xs = refl

-- the paths of one row give what its file offers
row_gives : (view : List FileRow) (symbols : List SymbolItem) (path : List ℕ) (m : Option ℕ) → number_in view path ≡ m → (place : ℕ) (rules : List Rule)
    → flat_map (given view symbols) (roots_from path place rules) ≡ in_row m symbols rules
row_gives view symbols path None e place [] = refl
row_gives view symbols path (Some n) e place [] = refl
row_gives view symbols path None e place (rule ∷ rules) =
    first_given (given view symbols) (begins_at root rule) (root_path path place (Some rule)) (roots_from path (place + 1) rules)
    ∙ (λ i. cond (begins_at root rule) (cond (stand_first (key rule) symbols) (option_map_or (λ (n : ℕ). numbered n rule ∷ []) (e i) []) []) []
    ++ row_gives view symbols path None e (place + 1) rules i)
    ∙ none_given (begins_at root rule) (stand_first (key rule) symbols)
row_gives view symbols path (Some n) e place (rule ∷ rules) =
    first_given (given view symbols) (begins_at root rule) (root_path path place (Some rule)) (roots_from path (place + 1) rules)
    ∙ (λ i. cond (begins_at root rule) (cond (stand_first (key rule) symbols) (option_map_or (λ (n : ℕ). numbered n rule ∷ []) (e i) []) []) []
    ++ row_gives view symbols path (Some n) e (place + 1) rules i)
    ∙ one_given (begins_at root rule) (stand_first (key rule) symbols) n rule (filter (is_offered_in n root symbols) rules)
    ∙ ap (λ b. map (numbered n) (cond (b && stand_first (key rule) symbols) (rule ∷ filter (is_offered_in n root symbols) rules) (filter (is_offered_in n root symbols) rules))) (root_moved n rule.start)

pub same_path : (p q : List ℕ) → path_cmp p q ≡ Equal → p ≡ q
same_path p q e = (bytes_eq-Decides p q).0 (sym (is_eq-slice_cmp p q) ∙ ap is_eq e)

-- those that are seen of rows
abbrev pub seen_rows : (List ℕ → Bool) → List FileRow → List FileRow
seen_rows t rows = filter (λ (row : FileRow). t row.path) rows

-- a file that isn't seen has no number
not_seen : (t : List ℕ → Bool) (path : List ℕ) → t path ≡ false → (rows : List FileRow) → has_path path (seen_rows t rows) ≡ false
not_seen t path out [] = refl
not_seen t path out (row ∷ rows) = by (t row.path) refl (not_seen t path out rows)
  where
    other : (o : Ordering) → path_cmp row.path path ≡ o → t row.path ≡ true → is_eq o ≡ false
    other Less e h = refl
    other Equal e h = absurd (false≢true (sym out ∙ ap t (sym (same_path row.path path e)) ∙ h))
    other Greater e h = refl

    by : (b : Bool) → t row.path ≡ b → has_path path (seen_rows t rows) ≡ false → has_path path (seen_rows t (row ∷ rows)) ≡ false
    by true h rest =
        ap (λ b. has_path path (cond b (row ∷ seen_rows t rows) (seen_rows t rows))) h
        ∙ ap (λ b. b || has_path path (seen_rows t rows)) (other (path_cmp row.path path) refl h) ∙ rest
    by false h rest = ap (λ b. has_path path (cond b (row ∷ seen_rows t rows) (seen_rows t rows))) h ∙ rest

-- the path of a row between others
path_between : (before rest : List FileRow) (row : FileRow) → path_at (before ++ row ∷ rest) (length before) ≡ Some row.path
path_between [] rest row = refl
path_between (other ∷ before) rest row = path_between before rest row

-- the paths of all rows give what the files that are seen offer
module _ (view : List FileRow) (symbols : List SymbolItem) (t : List ℕ → Bool) (order : IsInOrder view)
    (hidden : (path : List ℕ) → t path ≡ false → has_path path view ≡ false) where
  rows_give : (before rows : List FileRow) → view ≡ before ++ seen_rows t rows
      → flat_map (given view symbols) (all_roots rows) ≡ rules_offered_after (length before) (files_of (seen_rows t rows)) root symbols
  rows_give before [] e = refl
  rows_give before (row ∷ rows) e = flat_map-append (given view symbols) (roots_of row) (all_roots rows) ∙ by (t row.path) refl (λ others there. rows_give others rows there)
    where
      by : (b : Bool) → t row.path ≡ b
          → ((others : List FileRow) → view ≡ others ++ seen_rows t rows → flat_map (given view symbols) (all_roots rows) ≡ rules_offered_after (length others) (files_of (seen_rows t rows)) root symbols)
          → flat_map (given view symbols) (roots_of row) ++ flat_map (given view symbols) (all_roots rows) ≡ rules_offered_after (length before) (files_of (seen_rows t (row ∷ rows))) root symbols
      by true h rest =
          let there : view ≡ before ++ row ∷ seen_rows t rows = e ∙ ap (λ b. before ++ cond b (row ∷ seen_rows t rows) (seen_rows t rows)) h in
          let from_none : 0 + length before ≡ length before = omega arith in
          let number : number_in view row.path ≡ Some (length before)
          = number_of_place view 0 (length before) row.path order (ap (λ rs. path_at rs (length before)) there ∙ path_between before (seen_rows t rows) row) ∙ ap Some from_none in
          let longer : length (before ++ row ∷ []) ≡ length before + 1 = length-append before (row ∷ []) in
          (λ i. row_gives view symbols row.path (Some (length before)) number 0 row.file.rules i
          ++ rest (before ++ row ∷ []) (there ∙ sym (append_assoc before (row ∷ []) (seen_rows t rows))) i)
          ∙ ap (λ n. in_row (Some (length before)) symbols row.file.rules ++ rules_offered_after n (files_of (seen_rows t rows)) root symbols) longer
          ∙ sym (ap (λ b. rules_offered_after (length before) (files_of (cond b (row ∷ seen_rows t rows) (seen_rows t rows))) root symbols) h)
      by false h rest =
          let there : view ≡ before ++ seen_rows t rows = e ∙ ap (λ b. before ++ cond b (row ∷ seen_rows t rows) (seen_rows t rows)) h in
          (λ i. row_gives view symbols row.path None (no_number view 0 row.path (hidden row.path h)) 0 row.file.rules i ++ rest before there i)
          ∙ sym (ap (λ b. rules_offered_after (length before) (files_of (cond b (row ∷ seen_rows t rows) (seen_rows t rows))) root symbols) h)

-- a look-up at its beginning offers what the files that are seen offer
pub all_offered : (paths : List RootPath) (view : List FileRow) (symbols : List SymbolItem) → IsInOrder view → IsIndexOfView paths view
    → IsPermutation (roots_offered view symbols) (flat_map (seen view) (filter (asks symbols) paths))
all_offered paths view symbols order of =
    let t = covers of.version.rules of.shown.0 in
    let hidden : (path : List ℕ) → t path ≡ false → has_path path view ≡ false
    = λ path out. ap (has_path path) of.shown.1 ∙ not_seen t path out of.version.rows in
    let whole : flat_map (given view symbols) (all_roots of.version.rows) ≡ roots_offered view symbols
    = rows_give view symbols t order hidden [] of.version.rows of.shown.1 ∙ ap (λ rows. roots_offered rows symbols) (sym of.shown.1) in
    subst (λ ys. IsPermutation (roots_offered view symbols) ys) (sym (given_where (asks symbols) (seen view) paths))
    (subst (λ xs. IsPermutation xs (flat_map (given view symbols) paths)) whole
    (given_in_any_order (given view symbols) (all_roots of.version.rows) paths of.index.all))
