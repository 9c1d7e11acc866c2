-- One version has one index: lists in a strict order with the same elements are the same.
use Rattle.std.proofs.Common.{◌≡◌, refl, sym, ◌∙◌, ap, subst, ℕ, zero, suc, ◌+◌, ◌<◌, ◌≤◌, List, [], ◌∷◌, ◌++◌, length, get_or, Bool, true, false, cond, Some, arith}
use Rattle.std.specs.Prelude.{filter, ◌&&◌, nat_eq, Contains}
use Rattle.std.specs.List.{AllByRecursion}
use Rattle.std.specs.List.Sorted.{IsPermutation}
use Rattle.std.specs.Ordering.{nat_cmp, is_lt, is_eq, ordering_then, ordering_reverse}
use Rattle.std.specs.declared.cmp.Ordering.{Ordering}
use Rattle.std.specs.declared.cmp.Ordering.TheVariants.{Less, Equal, Greater}
use Rattle.std.proofs.lemmas.Bool.{false≢true}
use Rattle.std.proofs.lemmas.Bool.Decides.{nat_tests}
use Rattle.std.proofs.lemmas.Cmp.{nat_list_cmp_total, tied_itself}
use Rattle.std.proofs.lemmas.List.{length-append}
use Rattle.std.proofs.lemmas.List.Elements.{All-from_recursion, recursion_from_All, All-get_or, filter-append}
use Rattle.std.proofs.lemmas.List.Sums.{length-filter}
use Rattle.std.proofs.lemmas.List.Sorted.{IsPermutation-sym, IsPermutation-trans, Contains-permutation, sum_by-IsPermutation, sorted_far}
use Rattle.partial_path.specs.Rules.{Rule}
use Rattle.partial_path.specs.Starts.{begins_at}
use Rattle.partial_path.specs.Keys.{key_cmp}
use Rattle.version_tree.specs.Contents.{FileRow, path_cmp, IsInOrder}
use Rattle.root_index.specs.Blocks.{IsStrict}
use Rattle.root_index.specs.Roots.{RootPath, root, root_path, root_key, rank, rank_cmp, roots_from, roots_of, all_roots, IsIndexOf, OneIndex}
use Rattle.root_index.proofs.KeyOrders.{rank_cmp_total, order_of_ranks}
use Rattle.root_index.proofs.Seen.{same_path}

abbrev cmp : RootPath → RootPath → Ordering
cmp a b = rank_cmp (rank a) (rank b)

member : (P : RootPath → Type 0) (ps : List RootPath) (q : RootPath) → AllByRecursion P ps → Contains ps q → P q
member P ps q all c = subst P c.2 (All-get_or P ps c.0 q c.1 (All-from_recursion P ps all))

less_not : (o : Ordering) → o ≡ Less → ordering_reverse o ≡ Less → ⊥
less_not Less e f = absurd (false≢true (ap is_lt f))
less_not Equal e f = absurd (false≢true (ap is_lt e))
less_not Greater e f = absurd (false≢true (ap is_lt e))

not_both : (p q : RootPath) → cmp p q ≡ Less → cmp q p ≡ Less → ⊥
not_both p q e f = less_not (cmp p q) e (sym (rank_cmp_total.antisymm (rank q) (rank p)) ∙ f)

not_itself : (p : RootPath) → cmp p p ≡ Less → ⊥
not_itself p e = not_both p p e e

heads : (x y : RootPath) (xs ys : List RootPath) → AllByRecursion (λ (q : RootPath). cmp x q ≡ Less) xs → AllByRecursion (λ (q : RootPath). cmp y q ≡ Less) ys
    → (k : ℕ) → k < length (y ∷ ys) → get_or (y ∷ ys) k x ≡ x → (j : ℕ) → j < length (x ∷ xs) → get_or (x ∷ xs) j y ≡ y → x ≡ y
heads x y xs ys lx ly zero h e j h' e' = sym e
heads x y xs ys lx ly (suc k) h e zero h' e' = e'
heads x y xs ys lx ly (suc k) h e (suc j) h' e' =
    absurd (not_both x y (member (λ (q : RootPath). cmp x q ≡ Less) xs y lx (j, omega (arith, h'), e')) (member (λ (q : RootPath). cmp y q ≡ Less) ys x ly (k, omega (arith, h), e)))

tail_at : (x y p : RootPath) (ys : List RootPath) → x ≡ y → cmp x p ≡ Less → (k : ℕ) → k < length (y ∷ ys) → get_or (y ∷ ys) k p ≡ p → Contains ys p
tail_at x y p ys same less zero h e = absurd (not_itself x (subst (λ q. cmp x q ≡ Less) (sym (same ∙ e)) less))
tail_at x y p ys same less (suc k) h e = (k, omega (arith, h), e)

tail_in : (x y : RootPath) (xs ys : List RootPath) → x ≡ y → AllByRecursion (λ (q : RootPath). cmp x q ≡ Less) xs
    → ((p : RootPath) → Contains (x ∷ xs) p → Contains (y ∷ ys) p) → (p : RootPath) → Contains xs p → Contains ys p
tail_in x y xs ys same lx to p c =
    let there = to p (suc c.0, omega (arith, c.1), c.2) in
    tail_at x y p ys same (member (λ (q : RootPath). cmp x q ≡ Less) xs p lx c) there.0 there.1 there.2

same_list : (xs ys : List RootPath) → IsStrict xs → IsStrict ys → ((p : RootPath) → Contains xs p → Contains ys p) → ((p : RootPath) → Contains ys p → Contains xs p) → xs ≡ ys
same_list [] [] sx sy to from = refl
same_list [] (y ∷ ys) sx sy to from = let c = from y (zero, omega arith, refl) in absurd (omega (arith, c.1))
same_list (x ∷ xs) [] sx sy to from = let c = to x (zero, omega arith, refl) in absurd (omega (arith, c.1))
same_list (x ∷ xs) (y ∷ ys) sx sy to from =
    let a = to x (zero, omega arith, refl) in
    let b = from y (zero, omega arith, refl) in
    let same : x ≡ y = heads x y xs ys sx.0 sy.0 a.0 a.1 a.2 b.0 b.1 b.2 in
    (λ i. same i ∷ same_list xs ys sx.1 sy.1 (tail_in x y xs ys same sx.0 to) (tail_in y x ys xs (sym same) sy.0 from) i)

-- whether the path stands at that place of the file at that path
abbrev stands_at : List ℕ → ℕ → RootPath → Bool
stands_at path place p = is_eq (path_cmp p.path path) && nat_eq p.place place

-- none of a file from a later place on
none_later : (path : List ℕ) (place : ℕ) (here : List ℕ) (n : ℕ) (rules : List Rule) → place < n → filter (stands_at path place) (roots_from here n rules) ≡ []
none_later path place here n [] h = refl
none_later path place here n (rule ∷ rules) h =
    one (begins_at root rule) (is_eq (path_cmp here path)) (nat_eq n place) (roots_from here (n + 1) rules) (grind (arith, nat_tests, h)) refl refl (none_later path place here (n + 1) rules (omega (arith, h)))
  where
    one : (b s t : Bool) (ps : List RootPath) → t ≡ false → is_eq (path_cmp here path) ≡ s → nat_eq n place ≡ t → filter (stands_at path place) ps ≡ []
        → filter (stands_at path place) (cond b (root_path here n (Some rule) ∷ []) [] ++ ps) ≡ []
    one false s t ps e f g rest = rest
    one true true t ps e f g rest =
        (λ i. cond (f i && (g ∙ e) i) (root_path here n (Some rule) ∷ filter (stands_at path place) ps) (filter (stands_at path place) ps)) ∙ rest
    one true false t ps e f g rest =
        (λ i. cond (f i && (g ∙ e) i) (root_path here n (Some rule) ∷ filter (stands_at path place) ps) (filter (stands_at path place) ps)) ∙ rest

-- none of a file at another path
none_elsewhere : (path : List ℕ) (place : ℕ) (here : List ℕ) (n : ℕ) (rules : List Rule) → is_eq (path_cmp here path) ≡ false → filter (stands_at path place) (roots_from here n rules) ≡ []
none_elsewhere path place here n [] e = refl
none_elsewhere path place here n (rule ∷ rules) e = one (begins_at root rule) (roots_from here (n + 1) rules) (none_elsewhere path place here (n + 1) rules e)
  where
    one : (b : Bool) (ps : List RootPath) → filter (stands_at path place) ps ≡ [] → filter (stands_at path place) (cond b (root_path here n (Some rule) ∷ []) [] ++ ps) ≡ []
    one false ps rest = rest
    one true ps rest =
        (λ i. cond (e i && nat_eq n place) (root_path here n (Some rule) ∷ filter (stands_at path place) ps) (filter (stands_at path place) ps)) ∙ rest

and_false : (b : Bool) → b && false ≡ false
and_false true = refl
and_false false = refl

short : (b : Bool) (p : RootPath) → length (cond b (p ∷ []) []) ≤ 1
short true p = omega arith
short false p = omega arith

-- at most one of a file
one_of_file : (path : List ℕ) (place : ℕ) (here : List ℕ) (n : ℕ) (rules : List Rule) → length (filter (stands_at path place) (roots_from here n rules)) ≤ 1
one_of_file path place here n [] = omega arith
one_of_file path place here n (rule ∷ rules) =
    one (begins_at root rule) (nat_eq n place) refl (roots_from here (n + 1) rules) (one_of_file path place here (n + 1) rules)
    (λ t. none_later path place here (n + 1) rules (grind (arith, nat_tests, t)))
  where
    one : (b t : Bool) → nat_eq n place ≡ t → (ps : List RootPath) → length (filter (stands_at path place) ps) ≤ 1
        → (t ≡ true → filter (stands_at path place) ps ≡ [])
        → length (filter (stands_at path place) (cond b (root_path here n (Some rule) ∷ []) [] ++ ps)) ≤ 1
    one false t e ps rest none = rest
    one true true e ps rest none = subst (λ qs. length (cond (stands_at path place (root_path here n (Some rule))) (root_path here n (Some rule) ∷ qs) qs) ≤ 1) (sym (none refl)) (short (stands_at path place (root_path here n (Some rule))) (root_path here n (Some rule)))
    one true false e ps rest none =
        subst (λ (b : Bool). length (cond b (root_path here n (Some rule) ∷ filter (stands_at path place) ps) (filter (stands_at path place) ps)) ≤ 1)
        (sym (ap (λ t. is_eq (path_cmp here path) && t) e ∙ and_false (is_eq (path_cmp here path)))) rest

-- none of later rows
none_of_rows : (path : List ℕ) (place : ℕ) (rows : List FileRow) → AllByRecursion (λ (later : FileRow). path_cmp path later.path ≡ Less) rows → filter (stands_at path place) (all_roots rows) ≡ []
none_of_rows path place [] less = refl
none_of_rows path place (row ∷ rows) less =
    filter-append (stands_at path place) (roots_of row) (all_roots rows)
    ∙ (λ i. none_elsewhere path place row.path 0 row.file.rules (other (path_cmp row.path path) refl) i ++ none_of_rows path place rows less.1 i)
  where
    other : (o : Ordering) → path_cmp row.path path ≡ o → is_eq o ≡ false
    other Less e = refl
    other Equal e = absurd (false≢true (ap is_lt (sym (tied_itself nat_list_cmp_total path) ∙ subst (λ q. path_cmp path q ≡ Less) (same_path row.path path e) less.0)))
    other Greater e = refl

-- at most one of all rows
few_of_rows : (path : List ℕ) (place : ℕ) (rows : List FileRow) → IsInOrder rows → length (filter (stands_at path place) (all_roots rows)) ≤ 1
few_of_rows path place [] order = omega arith
few_of_rows path place (row ∷ rows) order =
    subst (λ (qs : List RootPath). length qs ≤ 1) (sym (filter-append (stands_at path place) (roots_of row) (all_roots rows)))
    (by (path_cmp row.path path) refl (few_of_rows path place rows order.1))
  where
    apart : is_eq (path_cmp row.path path) ≡ false → length (filter (stands_at path place) (all_roots rows)) ≤ 1
        → length (filter (stands_at path place) (roots_of row) ++ filter (stands_at path place) (all_roots rows)) ≤ 1
    apart e rest = subst (λ (qs : List RootPath). length (qs ++ filter (stands_at path place) (all_roots rows)) ≤ 1) (sym (none_elsewhere path place row.path 0 row.file.rules e)) rest

    by : (o : Ordering) → path_cmp row.path path ≡ o → length (filter (stands_at path place) (all_roots rows)) ≤ 1
        → length (filter (stands_at path place) (roots_of row) ++ filter (stands_at path place) (all_roots rows)) ≤ 1
    by Less e rest = apart (ap is_eq e) rest
    by Greater e rest = apart (ap is_eq e) rest
    by Equal e rest =
        let none : filter (stands_at path place) (all_roots rows) ≡ []
        = none_of_rows path place rows (subst (λ p. AllByRecursion (λ (later : FileRow). path_cmp p later.path ≡ Less) rows) (same_path row.path path e) order.0) in
        let all : length (filter (stands_at path place) (roots_of row) ++ filter (stands_at path place) (all_roots rows)) ≡ length (filter (stands_at path place) (roots_of row)) + length (filter (stands_at path place) (all_roots rows))
        = length-append (filter (stands_at path place) (roots_of row)) (filter (stands_at path place) (all_roots rows)) in
        let zero_left : length (filter (stands_at path place) (all_roots rows)) ≡ 0 = ap length none in
        let one : length (filter (stands_at path place) (roots_of row)) ≤ 1 = one_of_file path place row.path 0 row.file.rules in
        omega (arith, all, zero_left, one)

-- the same of an index
few_moved : (path : List ℕ) (place : ℕ) (xs ys : List RootPath) → IsPermutation xs ys → length (filter (stands_at path place) xs) ≡ length (filter (stands_at path place) ys)
few_moved path place xs ys moved =
    length-filter (stands_at path place) xs ∙ sym (sum_by-IsPermutation (λ (p : RootPath). cond (stands_at path place p) 1 0) xs ys moved) ∙ sym (length-filter (stands_at path place) ys)

none_passes : (q : RootPath → Bool) (ps : List RootPath) (k : ℕ) (d : RootPath) → length (filter q ps) ≡ 0 → k < length ps → q (get_or ps k d) ≡ false
none_passes q [] k d none h = absurd (omega (arith, h))
none_passes q (p ∷ ps) k d none h = by (q p) refl k h (λ e j below. none_passes q ps j d e below)
  where
    by : (b : Bool) → q p ≡ b → (k : ℕ) → k < length (p ∷ ps) → (length (filter q ps) ≡ 0 → (j : ℕ) → j < length ps → q (get_or ps j d) ≡ false) → q (get_or (p ∷ ps) k d) ≡ false
    by true e k h rest = let more : suc (length (filter q ps)) ≡ 0 = sym (ap (λ b. length (cond b (p ∷ filter q ps) (filter q ps))) e) ∙ none in absurd (omega (arith, more))
    by false e zero h rest = e
    by false e (suc k) h rest = rest (sym (ap (λ b. length (cond b (p ∷ filter q ps) (filter q ps))) e) ∙ none) k (omega (arith, h))

then_parts : (a b : Ordering) → ordering_then a b ≡ Equal → (a ≡ Equal) × (b ≡ Equal)
then_parts Less b e = absurd (false≢true (sym (ap is_lt e)))
then_parts Equal b e = (refl, e)
then_parts Greater b e = absurd (false≢true (ap is_eq e))

nat_tied : (m n : ℕ) → nat_cmp m n ≡ Equal → nat_eq n m ≡ true
nat_tied m n e = grind (arith, nat_tests, e)

nat_itself : (n : ℕ) → nat_eq n n ≡ true
nat_itself n = grind (arith, nat_tests)

stands_itself : (p : RootPath) → stands_at p.path p.place p ≡ true
stands_itself p = (λ i. is_eq (tied_itself nat_list_cmp_total p.path i) && nat_itself p.place i)

-- one that isn't lower, and doesn't stand at the same place, is higher
less_than : (p q : RootPath) → is_lt (cmp q p) ≡ false → stands_at p.path p.place q ≡ false → cmp p q ≡ Less
less_than p q up other = by (cmp p q) refl
  where
    by : (o : Ordering) → cmp p q ≡ o → cmp p q ≡ Less
    by Less e = e
    by Equal e =
        let parts = then_parts (key_cmp (root_key p) (root_key q)) (ordering_then (path_cmp p.path q.path) (nat_cmp p.place q.place)) e in
        let inner = then_parts (path_cmp p.path q.path) (nat_cmp p.place q.place) parts.1 in
        let tie : path_cmp q.path p.path ≡ Equal = subst (λ r. path_cmp r p.path ≡ Equal) (same_path p.path q.path inner.0) (tied_itself nat_list_cmp_total p.path) in
        absurd (false≢true (sym other ∙ (λ i. is_eq (tie i) && nat_tied p.place q.place inner.1 i)))
    by Greater e = absurd (false≢true (sym up ∙ ap is_lt (rank_cmp_total.antisymm (rank q) (rank p) ∙ ap ordering_reverse e)))

alone : (p : RootPath) (ps : List RootPath) → length (filter (stands_at p.path p.place) (p ∷ ps)) ≤ 1 → length (filter (stands_at p.path p.place) ps) ≡ 0
alone p ps few =
    let first : length (filter (stands_at p.path p.place) (p ∷ ps)) ≡ suc (length (filter (stands_at p.path p.place) ps))
    = ap (λ b. length (cond b (p ∷ filter (stands_at p.path p.place) ps) (filter (stands_at p.path p.place) ps))) (stands_itself p) in
    omega (arith, few, first)

fewer : (b : Bool) (p : RootPath) (ps : List RootPath) → length (cond b (p ∷ ps) ps) ≤ 1 → length ps ≤ 1
fewer true p ps h = omega (arith, h)
fewer false p ps h = h

strict_from : (ps : List RootPath) → ((i j : ℕ) (d : RootPath) → i ≤ j → j < length ps → is_lt (cmp (get_or ps j d) (get_or ps i d)) ≡ false)
    → ((path : List ℕ) (place : ℕ) → length (filter (stands_at path place) ps) ≤ 1) → IsStrict ps
strict_from [] far few = tt
strict_from (p ∷ ps) far few = (
  recursion_from_All (λ (q : RootPath). cmp p q ≡ Less) ps
      (λ k d h. less_than p (get_or ps k d) (far 0 (suc k) d (omega arith) (omega (arith, h))) (none_passes (stands_at p.path p.place) ps k d (alone p ps (few p.path p.place)) h)),
  strict_from ps (λ i j d le h. far (suc i) (suc j) d (omega (arith, le)) (omega (arith, h))) (λ path place. fewer (stands_at path place p) p (filter (stands_at path place) ps) (few path place)),
)

pub strict_index : (rows : List FileRow) (ps : List RootPath) → IsInOrder rows → IsIndexOf rows ps → IsStrict ps
strict_index rows ps order index =
    strict_from ps (sorted_far (λ p q. is_lt (cmp p q)) order_of_ranks ps index.order)
    (λ path place.
    let moved : length (filter (stands_at path place) (all_roots rows)) ≡ length (filter (stands_at path place) ps) = few_moved path place (all_roots rows) ps index.all in
    let few : length (filter (stands_at path place) (all_roots rows)) ≤ 1 = few_of_rows path place rows order in
    omega (arith, moved, few))

pub one_index : OneIndex
one_index rows a b order ia ib =
    same_list a b (strict_index rows a order ia) (strict_index rows b order ib)
    (λ p. Contains-permutation a b p (IsPermutation-trans a (all_roots rows) b (IsPermutation-sym (all_roots rows) a ia.all) ib.all))
    (λ p. Contains-permutation b a p (IsPermutation-trans b (all_roots rows) a (IsPermutation-sym (all_roots rows) b ib.all) ia.all))
