-- Taking the paths of a file out of an index, one after the other.
use Rattle.std.proofs.Common.{◌≡◌, refl, sym, ◌∙◌, ap, subst, ℕ, zero, suc, ◌+◌, ◌<◌, ◌≤◌, List, [], ◌∷◌, ◌++◌, length, take, get_or, Bool, true, false, cond, not, Option, Some, None, arith, slice_get, inl, inr}
use Rattle.std.specs.Prelude.{◌&&◌, ◌||◌, nat_eq, nat_lt, All, Contains}
use Rattle.std.specs.List.{AllByRecursion, filter, list_any}
use Rattle.std.specs.Option.{option_map_or}
use Rattle.std.specs.Cmp.Lexicographic.{lists_total}
use Rattle.std.specs.Ordering.{nat_cmp, is_lt, is_eq, ordering_then, ordering_reverse}
use Rattle.std.specs.declared.cmp.Ordering.{Ordering}
use Rattle.std.specs.declared.cmp.Ordering.TheVariants.{Less, Equal, Greater}
use Rattle.std.proofs.lemmas.Bool.{false≢true, cases_Bool}
use Rattle.std.proofs.lemmas.List.{append_assoc, take_more}
use Rattle.std.proofs.lemmas.Bool.Decides.{nat_tests}
use Rattle.std.proofs.lemmas.Cmp.{nat_list_cmp_total, tied_itself}
use Rattle.std.proofs.lemmas.List.Elements.{All-head, All-tail, All-cons, All-nil, All-append, All-weaker, Contains-append_right}
use Rattle.std.proofs.lemmas.List.Kept.{IsSortedBy-filter}
use Rattle.std.proofs.lemmas.List.Sorted.{All-permutation}
use Rattle.std.proofs.lemmas.Option.{slice_get_within, get_or_from_slice_get}
use Rattle.partial_path.specs.Rules.{Rule}
use Rattle.partial_path.specs.PathSets.{FileRules}
use Rattle.partial_path.specs.Starts.{begins_at}
use Rattle.partial_path.specs.Keys.{key, key_cmp}
use Rattle.partial_path.proofs.Halved.{filter_same}
use Rattle.version_tree.specs.declared.edit.Edit.{Edit}
use Rattle.version_tree.specs.Contents.{FileRow, file_row, path_cmp, IsInOrder}
use Rattle.version_tree.specs.Views.{file_with, file_at}
use Rattle.list_facts.proofs.Each.{all-filter}
use Rattle.root_index.specs.Roots.{RootPath, root, root_path, root_key, rank, rank_cmp, AreByRank, roots_from, roots_of, all_roots, IsIndexOf}
use Rattle.root_index.specs.Amended.{edit_path, names, is_touched, other_paths, without_file, rows_at, IsOf, AreOf, IsFrom, AreFrom}
use Rattle.root_index.specs.Blocks.{IsStrict, is_tied}
use Rattle.root_index.proofs.KeyOrders.{order_of_ranks}
use Rattle.root_index.proofs.Seen.{same_path}

-- what stays in order where some are left out
pub order_kept : (t : RootPath → Bool) (ps : List RootPath) → AreByRank ps → AreByRank (filter t ps)
order_kept t ps sorted = IsSortedBy-filter (λ (a : RootPath) (b : RootPath). is_lt (rank_cmp (rank a) (rank b))) order_of_ranks t ps sorted

pub strict_kept : (t : RootPath → Bool) (ps : List RootPath) → IsStrict ps → IsStrict (filter t ps)
strict_kept t [] strict = tt
strict_kept t (p ∷ ps) strict = by (t p) (strict_kept t ps strict.1)
  where
    by : (b : Bool) → IsStrict (filter t ps) → IsStrict (cond b (p ∷ filter t ps) (filter t ps))
    by true rest = (all-filter (λ (q : RootPath). rank_cmp (rank p) (rank q) ≡ Less) t ps strict.0, rest)
    by false rest = rest

-- two tests, one after the other, and tests that answer the same of all elements
pub twice_is : {X : Type 0} (p q : X → Bool) (xs : List X) → filter q (filter p xs) ≡ filter (λ x. p x && q x) xs
twice_is p q [] = refl
twice_is {X} p q (x ∷ xs) = by (p x) (twice_is p q xs)
  where
    by : (b : Bool) → filter q (filter p xs) ≡ filter (λ x. p x && q x) xs
        → filter q (cond b (x ∷ filter p xs) (filter p xs)) ≡ cond (b && q x) (x ∷ filter (λ x. p x && q x) xs) (filter (λ x. p x && q x) xs)
    by true rest = ap (λ ys. cond (q x) (x ∷ ys) ys) rest
    by false rest = rest

pub same_among : {X : Type 0} (P : X → Type 0) (p q : X → Bool) → ((x : X) → P x → p x ≡ q x) → (xs : List X) → All P xs → filter p xs ≡ filter q xs
same_among P p q same [] all = refl
same_among P p q same (x ∷ xs) all =
    ap (λ b. cond b (x ∷ filter p xs) (filter p xs)) (same x (All-head P x xs all)) ∙ ap (λ ys. cond (q x) (x ∷ ys) ys) (same_among P p q same xs (All-tail P x xs all))

-- how paths of files stand to one another
tie_turned : (p q : List ℕ) → is_eq (path_cmp p q) ≡ is_eq (path_cmp q p)
tie_turned p q = ap is_eq (nat_list_cmp_total.antisymm p q) ∙ flip (path_cmp q p)
  where
    flip : (r : Ordering) → is_eq (ordering_reverse r) ≡ is_eq r
    flip Less = refl
    flip Equal = refl
    flip Greater = refl

pub same_file : (p q : List ℕ) → is_eq (path_cmp p q) ≡ true → p ≡ q
same_file p q e = by (path_cmp p q) refl e
  where
    by : (r : Ordering) → path_cmp p q ≡ r → is_eq r ≡ true → p ≡ q
    by Less f h = absurd (false≢true h)
    by Equal f h = same_path p q f
    by Greater f h = absurd (false≢true h)

-- one that stands in a file is tied with the path at a place of the file exactly where it is the file's path at that place
then_eq : (a b : Ordering) → is_eq (ordering_then a b) ≡ is_eq a && is_eq b
then_eq Less b = refl
then_eq Equal b = refl
then_eq Greater b = refl

nat_tie : (m n : ℕ) → is_eq (nat_cmp m n) ≡ nat_eq m n
nat_tie m n = by (nat_lt m n) refl (nat_eq m n) refl
  where
    by : (b : Bool) → nat_lt m n ≡ b → (d : Bool) → nat_eq m n ≡ d → is_eq (cond (nat_lt m n) Less (cond (nat_eq m n) Equal Greater)) ≡ nat_eq m n
    by b e d f = grind (arith, nat_tests, e, f)

key_itself : (k : List (List ℕ)) → is_eq (key_cmp k k) ≡ true
key_itself k = ap is_eq (tied_itself (lists_total nat_list_cmp_total) k)

and_none : (a : Bool) → a && false ≡ false
and_none true = refl
and_none false = refl

-- the paths that are left where those of earlier places of the file were taken out
abbrev pub is_left : FileRow → ℕ → RootPath → Bool
is_left row n p = not (is_eq (path_cmp row.path p.path) && nat_lt p.place n)

module _ (row : FileRow) (place : ℕ) where
  tied_is : (p : RootPath) → (is_eq (path_cmp row.path p.path) ≡ true → IsOf row p)
      → is_tied (root_path row.path place (slice_get row.file.rules place)) p ≡ is_eq (path_cmp row.path p.path) && nat_eq p.place place
  tied_is p of =
      then_eq (key_cmp (root_key p) (root_key (root_path row.path place (slice_get row.file.rules place)))) (ordering_then (path_cmp p.path row.path) (nat_cmp p.place place))
      ∙ ap (λ b. is_eq (key_cmp (root_key p) (root_key (root_path row.path place (slice_get row.file.rules place)))) && b)
      (then_eq (path_cmp p.path row.path) (nat_cmp p.place place) ∙ (λ i. tie_turned p.path row.path i && nat_tie p.place place i))
      ∙ by (is_eq (path_cmp row.path p.path)) refl (nat_eq p.place place) refl
    where
      by : (b : Bool) → is_eq (path_cmp row.path p.path) ≡ b → (d : Bool) → nat_eq p.place place ≡ d
          → is_eq (key_cmp (root_key p) (root_key (root_path row.path place (slice_get row.file.rules place)))) && (is_eq (path_cmp row.path p.path) && nat_eq p.place place)
          ≡ is_eq (path_cmp row.path p.path) && nat_eq p.place place
      by false e d f = ap (λ b. is_eq (key_cmp (root_key p) (root_key (root_path row.path place (slice_get row.file.rules place)))) && (b && nat_eq p.place place)) e
          ∙ and_none _ ∙ sym (ap (λ b. b && nat_eq p.place place) e)
      by true e false f = (λ i. is_eq (key_cmp (root_key p) (root_key (root_path row.path place (slice_get row.file.rules place)))) && (e i && f i))
          ∙ and_none _ ∙ sym (λ i. e i && f i)
      by true e true f =
          let same : p.place ≡ place = grind (arith, nat_tests, f) in
          let there = of e in
          let rules_are : p.rule ≡ slice_get row.file.rules place = there.same ∙ sym there.there ∙ ap (slice_get row.file.rules) same in
          ap (λ b. b && (is_eq (path_cmp row.path p.path) && nat_eq p.place place))
          (ap (λ (r : Option Rule). is_eq (key_cmp (option_map_or key r []) (option_map_or key (slice_get row.file.rules place) []))) rules_are
          ∙ key_itself (option_map_or key (slice_get row.file.rules place) []))

  -- the path at the next place is taken out
  pub one_out : (ps : List RootPath) → AreOf row ps
      → filter (λ (q : RootPath). not (is_tied (root_path row.path place (slice_get row.file.rules place)) q)) (filter (is_left row place) ps) ≡ filter (is_left row (place + 1)) ps
  one_out ps of =
      twice_is (is_left row place) (λ (q : RootPath). not (is_tied (root_path row.path place (slice_get row.file.rules place)) q)) ps
      ∙ same_among (λ (p : RootPath). is_eq (path_cmp row.path p.path) ≡ true → IsOf row p)
      (λ (p : RootPath). is_left row place p && not (is_tied (root_path row.path place (slice_get row.file.rules place)) p)) (is_left row (place + 1))
      (λ p of. ap (λ b. is_left row place p && not b) (tied_is p of) ∙ next (is_eq (path_cmp row.path p.path)) p.place) ps of
    where
      next : (b : Bool) (n : ℕ) → not (b && nat_lt n place) && not (b && nat_eq n place) ≡ not (b && nat_lt n (place + 1))
      next false n = refl
      next true n = grind (arith, nat_tests)

  -- none stands at a place whose path doesn't begin at the root
  pub none_out : (ps : List RootPath) → AreOf row ps → (d : Rule) → place < length row.file.rules → begins_at root (get_or row.file.rules place d) ≡ false
      → filter (is_left row place) ps ≡ filter (is_left row (place + 1)) ps
  none_out ps of d h other =
      same_among (λ (p : RootPath). is_eq (path_cmp row.path p.path) ≡ true → IsOf row p) (is_left row place) (is_left row (place + 1)) (λ p of. next p of) ps of
    where
      elsewhere : (p : RootPath) → IsOf row p → nat_eq p.place place ≡ false
      elsewhere p of = elim (cases_Bool (nat_eq p.place place)) [
        | inl e ↦
            let same : p.place ≡ place = grind (arith, nat_tests, e) in
            let found : slice_get row.file.rules place ≡ Some of.rule = ap (slice_get row.file.rules) (sym same) ∙ of.there in
            absurd (false≢true (sym other ∙ ap (begins_at root) (get_or_from_slice_get row.file.rules place of.rule d found) ∙ of.from))
        | inr e ↦ e
      ]

      plain : (n : ℕ) → nat_eq n place ≡ false → not (nat_lt n place) ≡ not (nat_lt n (place + 1))
      plain n e = grind (arith, nat_tests, e)

      next : (p : RootPath) → (is_eq (path_cmp row.path p.path) ≡ true → IsOf row p) → is_left row place p ≡ is_left row (place + 1) p
      next p of = by (is_eq (path_cmp row.path p.path)) refl
        where
          by : (b : Bool) → is_eq (path_cmp row.path p.path) ≡ b → is_left row place p ≡ is_left row (place + 1) p
          by false e = ap (λ b. not (b && nat_lt p.place place)) e ∙ sym (ap (λ b. not (b && nat_lt p.place (place + 1))) e)
          by true e = ap (λ b. not (b && nat_lt p.place place)) e ∙ plain p.place (elsewhere p (of e)) ∙ sym (ap (λ b. not (b && nat_lt p.place (place + 1))) e)

-- at first none is taken out, and in the end all
pub none_yet : (row : FileRow) (ps : List RootPath) → filter (is_left row 0) ps ≡ ps
none_yet row [] = refl
none_yet row (p ∷ ps) = ap (λ b. cond b (p ∷ filter (is_left row 0) ps) (filter (is_left row 0) ps)) (none (is_eq (path_cmp row.path p.path))) ∙ ap (λ qs. p ∷ qs) (none_yet row ps)
  where
    none : (b : Bool) → not (b && nat_lt p.place 0) ≡ true
    none false = refl
    none true = grind (arith, nat_tests)

pub all_out : (row : FileRow) (ps : List RootPath) (n : ℕ) → AreOf row ps → length row.file.rules ≤ n → filter (is_left row n) ps ≡ without_file row.path ps
all_out row ps n of h =
    same_among (λ (p : RootPath). is_eq (path_cmp row.path p.path) ≡ true → IsOf row p) (is_left row n) (λ (p : RootPath). not (is_eq (path_cmp row.path p.path))) (λ p of. one p of) ps of
  where
    one : (p : RootPath) → (is_eq (path_cmp row.path p.path) ≡ true → IsOf row p) → is_left row n p ≡ not (is_eq (path_cmp row.path p.path))
    one p of = by (is_eq (path_cmp row.path p.path)) refl
      where
        within : (k : ℕ) → k < n → not (nat_lt k n) ≡ false
        within k h = grind (arith, nat_tests, h)

        by : (b : Bool) → is_eq (path_cmp row.path p.path) ≡ b → is_left row n p ≡ not (is_eq (path_cmp row.path p.path))
        by false e = ap (λ b. not (b && nat_lt p.place n)) e ∙ sym (ap not e)
        by true e =
            let there = of e in
            let inside : p.place < length row.file.rules = slice_get_within row.file.rules p.place there.rule there.there in
            ap (λ b. not (b && nat_lt p.place n)) e ∙ within p.place (omega (arith, inside, h)) ∙ sym (ap not e)

-- the paths of an index are from its rows' files
from_root : (row : FileRow) (rows : List FileRow) → Contains rows row → (n : ℕ) (rules : List Rule) → ((k : ℕ) (rule : Rule) → slice_get rules k ≡ Some rule → slice_get row.file.rules (n + k) ≡ Some rule)
    → All (IsFrom rows) (roots_from row.path n rules)
from_root row rows one n [] there = All-nil (IsFrom rows)
from_root row rows one n (rule ∷ rules) there =
    All-append (IsFrom rows) (cond (begins_at root rule) (root_path row.path n (Some rule) ∷ []) []) (roots_from row.path (n + 1) rules)
    (by (begins_at root rule) refl)
    (from_root row rows one (n + 1) rules (λ k r e. let next : n + suc k ≡ (n + 1) + k = omega arith in ap (slice_get row.file.rules) (sym next) ∙ there (suc k) r e))
  where
    by : (b : Bool) → begins_at root rule ≡ b → All (IsFrom rows) (cond b (root_path row.path n (Some rule) ∷ []) [])
    by false e = All-nil (IsFrom rows)
    by true e =
        let here : n + 0 ≡ n = omega arith in
        All-cons (IsFrom rows) (root_path row.path n (Some rule)) [] (record {
          row = row;
          one = one;
          named = refl;
          of = record { rule = rule; there = ap (slice_get row.file.rules) (sym here) ∙ there 0 rule refl; same = refl; from = e };
        }) (All-nil (IsFrom rows))

from_rows : (done rows : List FileRow) → All (IsFrom (done ++ rows)) (all_roots rows)
from_rows done [] = All-nil (IsFrom (done ++ []))
from_rows done (row ∷ rows) =
    All-append (IsFrom (done ++ row ∷ rows)) (roots_of row) (all_roots rows)
    (from_root row (done ++ row ∷ rows) (Contains-append_right done (row ∷ rows) row (0, omega arith, refl)) 0 row.file.rules
    (λ k rule e. let here : 0 + k ≡ k = omega arith in ap (slice_get row.file.rules) here ∙ e))
    (subst (λ rs. All (IsFrom rs) (all_roots rows)) (append_assoc done (row ∷ []) rows) (from_rows (done ++ row ∷ []) rows))

pub from_index : (rows : List FileRow) (ps : List RootPath) → IsIndexOf rows ps → AreFrom rows ps
from_index rows ps index = All-permutation (IsFrom rows) (all_roots rows) ps index.all (from_rows [] rows)

-- the rows with a path, of rows in order
none_lower : (path : List ℕ) (row : FileRow) (rows : List FileRow) → is_eq (path_cmp path row.path) ≡ true → AllByRecursion (λ (later : FileRow). path_cmp row.path later.path ≡ Less) rows → rows_at path rows ≡ []
none_lower path row [] e less = refl
none_lower path row (later ∷ rows) e less =
    ap (λ b. cond b (later ∷ rows_at path rows) (rows_at path rows))
    ((λ i. is_eq (path_cmp (same_file path row.path e i) later.path)) ∙ ap is_eq less.0)
    ∙ none_lower path row rows e less.1

pub rows_at_are : (path : List ℕ) (rows : List FileRow) (found : Option FileRules) → IsInOrder rows → found ≡ file_with path rows
    → rows_at path rows ≡ option_map_or (λ (file : FileRules). file_row path file ∷ []) found []
rows_at_are path rows found order e = by rows order ∙ sym (ap (λ (o : Option FileRules). option_map_or (λ (file : FileRules). file_row path file ∷ []) o []) (e ∙ turned rows))
  where
    turned : (rows : List FileRow) → file_with path rows ≡ file_at (rows_at path rows) 0
    turned rows = ap (λ (rs : List FileRow). file_at rs 0) (filter_same (λ (row : FileRow). is_eq (path_cmp row.path path)) (λ (row : FileRow). is_eq (path_cmp path row.path)) (λ row. tie_turned row.path path) rows)

    by : (rows : List FileRow) → IsInOrder rows → rows_at path rows ≡ option_map_or (λ (file : FileRules). file_row path file ∷ []) (file_at (rows_at path rows) 0) []
    by [] order = refl
    by (row ∷ rows) order = split (is_eq (path_cmp path row.path)) refl (by rows order.1)
      where
        split : (b : Bool) → is_eq (path_cmp path row.path) ≡ b → rows_at path rows ≡ option_map_or (λ (file : FileRules). file_row path file ∷ []) (file_at (rows_at path rows) 0) []
            → rows_at path (row ∷ rows) ≡ option_map_or (λ (file : FileRules). file_row path file ∷ []) (file_at (rows_at path (row ∷ rows)) 0) []
        split false f rest = ap (λ b. cond b (row ∷ rows_at path rows) (rows_at path rows)) f ∙ rest
            ∙ sym (ap (λ b. option_map_or (λ (file : FileRules). file_row path file ∷ []) (file_at (cond b (row ∷ rows_at path rows) (rows_at path rows)) 0) []) f)
        split true f rest = ap (λ b. cond b (row ∷ rows_at path rows) (rows_at path rows)) f ∙ ap (λ rs. row ∷ rs) (none_lower path row rows f order.0)
            ∙ ap (λ (q : List ℕ). file_row q row.file ∷ []) (sym (same_file path row.path f))
            ∙ sym (ap (λ b. option_map_or (λ (file : FileRules). file_row path file ∷ []) (file_at (cond b (row ∷ rows_at path rows) (rows_at path rows)) 0) []) f)

row_in : (path : List ℕ) (rows : List FileRow) (row : FileRow) (k : ℕ) → k < length rows → get_or rows k row ≡ row → is_eq (path_cmp path row.path) ≡ true → Contains (rows_at path rows) row
row_in path [] row k h e f = absurd (omega (arith, h))
row_in path (other ∷ rows) row zero h e f = subst (λ b. Contains (cond b (other ∷ rows_at path rows) (rows_at path rows)) row) (sym (ap (λ (r : FileRow). is_eq (path_cmp path r.path)) e ∙ f)) (0, omega arith, e)
row_in path (other ∷ rows) row (suc k) h e f = by (is_eq (path_cmp path other.path)) (row_in path rows row k (omega (arith, h)) e f)
  where
    by : (b : Bool) → Contains (rows_at path rows) row → Contains (cond b (other ∷ rows_at path rows) (rows_at path rows)) row
    by true c = (suc c.0, omega (arith, c.1), c.2)
    by false c = c

only_one : (one row : FileRow) → Contains (one ∷ []) row → one ≡ row
only_one one row (zero, h, e) = e
only_one one row (suc k, h, e) = absurd (omega (arith, h))

-- where the rows have a file at the path, the paths with its path stand in it
pub of_file : (path : List ℕ) (rows : List FileRow) (file : FileRules) (ps : List RootPath) → IsInOrder rows → Some file ≡ file_with path rows → AreFrom rows ps → AreOf (file_row path file) ps
of_file path rows file ps order e from =
    All-weaker (IsFrom rows) (λ (p : RootPath). is_eq (path_cmp path p.path) ≡ true → IsOf (file_row path file) p) (λ p is h.
    let named : is_eq (path_cmp path is.row.path) ≡ true = ap (λ q. is_eq (path_cmp path q)) (sym is.named) ∙ h in
    let there : Contains (rows_at path rows) is.row = row_in path rows is.row is.one.0 is.one.1 is.one.2 named in
    let same : file_row path file ≡ is.row = only_one (file_row path file) is.row (subst (λ rs. Contains rs is.row) (rows_at_are path rows (Some file) order e) there) in
    subst (λ (r : FileRow). IsOf r p) (sym same) is.of) ps from

-- where they have none, no path has it
pub of_none : (path : List ℕ) (rows : List FileRow) (ps : List RootPath) → IsInOrder rows → None ≡ file_with path rows → AreFrom rows ps → ps ≡ without_file path ps
of_none path rows [] order e from = refl
of_none path rows (p ∷ ps) order e from =
    sym (ap (λ b. cond (not b) (p ∷ without_file path ps) (without_file path ps)) (other (All-head (IsFrom rows) p ps from))
    ∙ ap (λ qs. p ∷ qs) (sym (of_none path rows ps order e (All-tail (IsFrom rows) p ps from))))
  where
    other : IsFrom rows p → is_eq (path_cmp path p.path) ≡ false
    other is = elim (cases_Bool (is_eq (path_cmp path p.path))) [
      | inl h ↦
          let named : is_eq (path_cmp path is.row.path) ≡ true = ap (λ q. is_eq (path_cmp path q)) (sym is.named) ∙ h in
          let there : Contains [] is.row = subst (λ rs. Contains rs is.row) (rows_at_are path rows None order e) (row_in path rows is.row is.one.0 is.one.1 is.one.2 named) in
          absurd (omega (arith, there.1))
      | inr h ↦ h
    ]

-- the edits so far, one more of them
any_more : {X : Type 0} (t : X → Bool) (xs : List X) (i : ℕ) (d : X) → i < length xs → list_any t (take (i + 1) xs) ≡ list_any t (take i xs) || t (get_or xs i d)
any_more {X} t xs i d h = ap (list_any t) (take_more xs i d h) ∙ joined (take i xs)
  where
    joined : (ys : List X) → list_any t (ys ++ get_or xs i d ∷ []) ≡ list_any t ys || t (get_or xs i d)
    joined [] = or_none (t (get_or xs i d))
      where
        or_none : (b : Bool) → b || false ≡ b
        or_none true = refl
        or_none false = refl
    joined (y ∷ ys) = ap (λ b. t y || b) (joined ys) ∙ or_assoc (t y) (list_any t ys) (t (get_or xs i d))
      where
        or_assoc : (a b c : Bool) → a || (b || c) ≡ (a || b) || c
        or_assoc true b c = refl
        or_assoc false b c = refl

pub touched_more : (edits : List Edit) (i : ℕ) (edit : Edit) (path : List ℕ) → i < length edits → get_or edits i edit ≡ edit → is_touched (take (i + 1) edits) path ≡ is_touched (take i edits) path || names path edit
touched_more edits i edit path h e = any_more (names path) edits i edit h ∙ ap (λ ed. is_touched (take i edits) path || names path ed) e

-- an edit of a file takes its paths out
pub edit_out : (edits : List Edit) (i : ℕ) (edit : Edit) (path : List ℕ) (ps : List RootPath) → i < length edits → get_or edits i edit ≡ edit → Some path ≡ edit_path edit
    → without_file path (other_paths (take i edits) ps) ≡ other_paths (take (i + 1) edits) ps
edit_out edits i edit path ps h is named =
    twice_is (λ (p : RootPath). not (is_touched (take i edits) p.path)) (λ (p : RootPath). not (is_eq (path_cmp path p.path))) ps
    ∙ filter_same (λ (p : RootPath). not (is_touched (take i edits) p.path) && not (is_eq (path_cmp path p.path))) (λ (p : RootPath). not (is_touched (take (i + 1) edits) p.path))
    (λ p. neither (is_touched (take i edits) p.path) (is_eq (path_cmp path p.path))
    ∙ sym (ap not (touched_more edits i edit p.path h is ∙ ap (λ (o : Option (List ℕ)). is_touched (take i edits) p.path || option_map_or (λ (other : List ℕ). is_eq (path_cmp other p.path)) o false) (sym named)))) ps
  where
    neither : (a b : Bool) → not a && not b ≡ not (a || b)
    neither true b = refl
    neither false b = refl

-- another edit takes none out
pub other_edit : (edits : List Edit) (i : ℕ) (edit : Edit) (ps : List RootPath) → i < length edits → get_or edits i edit ≡ edit → None ≡ edit_path edit
    → other_paths (take i edits) ps ≡ other_paths (take (i + 1) edits) ps
other_edit edits i edit ps h is none =
    filter_same (λ (p : RootPath). not (is_touched (take i edits) p.path)) (λ (p : RootPath). not (is_touched (take (i + 1) edits) p.path))
    (λ p. sym (ap not (touched_more edits i edit p.path h is ∙ ap (λ (o : Option (List ℕ)). is_touched (take i edits) p.path || option_map_or (λ (other : List ℕ). is_eq (path_cmp other p.path)) o false) (sym none)
    ∙ or_none (is_touched (take i edits) p.path)))) ps
  where
    or_none : (b : Bool) → b || false ≡ b
    or_none true = refl
    or_none false = refl

pub no_edits : (ps : List RootPath) → ps ≡ other_paths [] ps
no_edits [] = refl
no_edits (p ∷ ps) = ap (λ qs. p ∷ qs) (no_edits ps)
