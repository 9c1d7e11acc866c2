-- What is among the front: the paths that none shadows. And how a binary search finds it.
use Rattle.std.proofs.Common.{◌≡◌, ℕ, ◌+◌, ◌<◌, ◌≤◌, Bool, true, false, not, List, [], ◌∷◌, ◌++◌, length, map, take, ◌⊎◌, inl, inr, refl, sym, ap, ◌∙◌, subst, arith, get_or, Contains, ◌↔◌, Result, Ok, Err, IsTrue, is_ok}
use Rattle.std.specs.declared.cmp.Ordering.TheVariants.{Less, Equal, Greater}
use Rattle.std.specs.List.{All, filter, dedup}
use Rattle.std.specs.List.Sorted.{IsSortedBy, IsPermutation, IsBinarySearchResult, IsSearchInRange, IsPartitionPoint}
use Rattle.std.specs.Ordering.{is_lt}
use Rattle.std.proofs.lemmas.Bool.{true≢false, false≢true, cases_Bool, cases_lt, not_from_true, not_from_false, not-true, false_from_ne_true}
use Rattle.std.proofs.lemmas.Cmp.{tied_itself}
use Rattle.std.proofs.lemmas.List.{length-map, get_or-map, map-append, take_more}
use Rattle.std.proofs.lemmas.List.Elements.{All-cons, All-nil, All-weaker, All-contains, All-filter, All-contains_itself, filter_passes, Contains-append_right}
use Rattle.std.proofs.lemmas.List.Kept.{IsSortedBy-filter}
use Rattle.std.proofs.lemmas.List.Sorted.{Contains-permutation, IsPermutation-sym, IsPermutation-map, list_any-IsPermutation, searchable_from_sorted}
use Rattle.shadowing.specs.declared.paths.EdgeStep.{EdgeStep}
use Rattle.shadowing.specs.Shadow.{shadows, is_shadowed}
use Rattle.shadowing.specs.Ranks.{by_rank}
use Rattle.shadowing.proofs.Order.{by_rank_total, by_rank-Equal, ranks}
use Rattle.shadowing.proofs.Passing.{front_is}

module _ {X : Type 0} (q : X → Bool) where
  from_filter : (xs : List X) (x : X) → Contains (filter q xs) x → Contains xs x × (q x ≡ true)
  from_filter xs x h = (
    All-contains (Contains xs) (filter q xs) x (All-filter q (Contains xs) xs (All-contains_itself xs)) h,
    All-contains (λ y. q y ≡ true) (filter q xs) x (filter_passes q xs) h,
  )

  Among : List X → X → Type 0
  Among xs y = q y ≡ true → Contains (filter q xs) y

  first_among : (x : X) (xs : List X) → Among (x ∷ xs) x
  unfolding Among
  first_among x xs t = rw t (0, omega arith, refl)

  more_among : (x : X) (xs : List X) (y : X) → Among xs y → Among (x ∷ xs) y
  unfolding Among
  more_among x xs y h t = by (cases_Bool (q x))
    where
      by : (q x ≡ true) ⊎ (q x ≡ false) → Contains (filter q (x ∷ xs)) y
      by (inl e) = rw e (Contains-append_right (x ∷ []) (filter q xs) y (h t))
      by (inr e) = rw e (h t)

  all_among : (xs : List X) → All (Among xs) xs
  all_among [] = All-nil (Among [])
  all_among (x ∷ xs) = All-cons (Among (x ∷ xs)) x xs (first_among x xs) (All-weaker (Among xs) (Among (x ∷ xs)) (more_among x xs) xs (all_among xs))

  into_filter : (xs : List X) (x : X) → Contains xs x → q x ≡ true → Contains (filter q xs) x
  unfolding Among
  into_filter xs x h t = All-contains (Among xs) xs x (all_among xs) h t

module _ {X : Type 0} (key : X → List EdgeStep) where
  map-filter : (sh : List EdgeStep → Bool) (xs : List X) → map key (filter (λ a. not (sh (key a))) xs) ≡ filter (λ p. not (sh p)) (map key xs)
  map-filter sh [] = refl
  map-filter sh (x ∷ xs) = by (map-filter sh xs) (cases_Bool (sh (key x)))
    where
      by : map key (filter (λ a. not (sh (key a))) xs) ≡ filter (λ p. not (sh p)) (map key xs) → (sh (key x) ≡ true) ⊎ (sh (key x) ≡ false) → map key (filter (λ a. not (sh (key a))) (x ∷ xs)) ≡ filter (λ p. not (sh p)) (map key (x ∷ xs))
      by more (inl e) = rw e more
      by more (inr e) = rw e (ap (λ (l : List (List EdgeStep)). key x ∷ l) more)

  -- the front is in order
  pub front_ranked : (sorted front : List X) → IsSortedBy (λ a b. is_lt (by_rank (key a) (key b))) sorted → front ≡ dedup (λ a k. shadows (key k) (key a)) sorted → IsSortedBy (λ a b. is_lt (by_rank (key a) (key b))) front
  front_ranked sorted front up left =
      subst (λ (xs : List X). IsSortedBy (λ a b. is_lt (by_rank (key a) (key b))) xs) (sym (left ∙ front_is key sorted up))
      (IsSortedBy-filter (λ a b. is_lt (by_rank (key a) (key b))) (ranks key) (λ a. not (is_shadowed (map key sorted) (key a))) sorted up)

  -- the front of paths in another order holds just those that none of the paths shadows
  pub front_exact : (paths : List (List EdgeStep)) (refs sorted front : List X) → map key refs ≡ paths → IsPermutation refs sorted → IsSortedBy (λ a b. is_lt (by_rank (key a) (key b))) sorted → front ≡ dedup (λ a k. shadows (key k) (key a)) sorted → (path : List EdgeStep) → Contains (map key front) path ↔ (Contains paths path × (is_shadowed paths path ≡ false))
  front_exact paths refs sorted front is moved up left path = (into, back)
    where
      all : List (List EdgeStep)
      all = map key sorted

      moved_paths : IsPermutation paths all
      moved_paths = subst (λ (xs : List (List EdgeStep)). IsPermutation xs all) is (IsPermutation-map key refs sorted moved)

      same : is_shadowed paths path ≡ is_shadowed all path
      same = list_any-IsPermutation (λ (other : List EdgeStep). shadows other path) paths all moved_paths

      filtered : map key front ≡ filter (λ p. not (is_shadowed all p)) all
      filtered = ap (map key) (left ∙ front_is key sorted up) ∙ map-filter (is_shadowed all) sorted

      into : Contains (map key front) path → Contains paths path × (is_shadowed paths path ≡ false)
      into h =
          let both = from_filter (λ p. not (is_shadowed all p)) all path (subst (λ (xs : List (List EdgeStep)). Contains xs path) filtered h) in
          (Contains-permutation all paths path (IsPermutation-sym paths all moved_paths) both.0, same ∙ not-true (is_shadowed all path) both.1)

      back : Contains paths path × (is_shadowed paths path ≡ false) → Contains (map key front) path
      back h =
          subst (λ (xs : List (List EdgeStep)). Contains xs path) (sym filtered)
          (into_filter (λ p. not (is_shadowed all p)) all path (Contains-permutation paths all path moved_paths h.0) (not_from_false (is_shadowed all path) (sym same ∙ h.1)))

  one_of : (xs : List X) (i : ℕ) → i < length xs → X
  one_of [] i h = absurd (omega arith)
  one_of (x ∷ xs) i h = x

  -- a binary search by rank in a list that is in order finds a path exactly where it is there
  pub found_among : (xs : List X) (path : List EdgeStep) (r : Result ℕ ℕ) → IsSortedBy (λ a b. is_lt (by_rank (key a) (key b))) xs → IsSearchInRange r (length xs) → IsBinarySearchResult (λ y. by_rank (key y) path) xs r → IsTrue (is_ok r) ↔ Contains (map key xs) path
  found_among xs path (Ok i) up within h =
      (λ t. (i, rw length-map within, get_or-map key xs i (one_of xs i within) path within ∙ by_rank-Equal (key (get_or xs i (one_of xs i within))) path (h (one_of xs i within))), λ k. refl)
  found_among xs path (Err i) up within h = (λ t. absurd (false≢true t), λ k. absurd (none k))
    where
      point : IsPartitionPoint (λ y. by_rank (key y) path ≡ Less) (λ y. by_rank (key y) path ≡ Greater) xs i
      point = h (searchable_from_sorted by_rank_total key xs path up)

      none_at : (n : ℕ) (d : X) → n < length xs → key (get_or xs n d) ≡ path → ⊥
      none_at n d inside is = by (subst (λ (p : List EdgeStep). by_rank p path ≡ Equal) (sym is) (tied_itself by_rank_total path)) (cases_lt n i)
        where
          by : by_rank (key (get_or xs n d)) path ≡ Equal → (n < i) ⊎ (i ≤ n) → ⊥
          by e (inl low) = let f = point.0 n d (omega arith) low in cc
          by e (inr high) = let f = point.1 n d high inside in cc

      none : Contains (map key xs) path → ⊥
      none k =
          let inside : k.0 < length xs = rw length-map at k.1 in
          none_at k.0 (one_of xs k.0 inside) inside (sym (get_or-map key xs k.0 (one_of xs k.0 inside) path inside) ∙ k.2)

-- the marks of one more path
pub marks_more : {X : Type 0} (key : X → List EdgeStep) (paths : List (List EdgeStep)) (i : ℕ) (path : List EdgeStep) (among : Bool) (front lent : List X) (marks new : List Bool) → i < length paths → path ≡ get_or paths i path → ((p : List EdgeStep) → Contains (map key front) p ↔ (Contains paths p × (is_shadowed paths p ≡ false))) → lent ≡ front → (IsTrue among ↔ Contains (map key lent) path) → new ≡ marks ++ not among ∷ [] → marks ≡ map (is_shadowed paths) (take i paths) → new ≡ map (is_shadowed paths) (take (i + 1) paths)
marks_more key paths i path among front lent marks new within is exact same tells push so_far =
    push ∙ ap (λ xs. xs ++ not among ∷ []) so_far
    ∙ (ap (λ b. map (is_shadowed paths) (take i paths) ++ b ∷ []) (mark (cases_Bool (is_shadowed paths path)))
    ∙ sym (ap (map (is_shadowed paths)) (take_more paths i path within ∙ ap (λ p. take i paths ++ p ∷ []) (sym is)) ∙ map-append (is_shadowed paths) (take i paths) (path ∷ [])))
  where
    among_front : IsTrue among ↔ Contains (map key front) path
    among_front = subst (λ xs. IsTrue among ↔ Contains (map key xs) path) same tells

    mark : (is_shadowed paths path ≡ true) ⊎ (is_shadowed paths path ≡ false) → not among ≡ is_shadowed paths path
    mark (inl t) = not_from_false among (false_from_ne_true among (λ a. true≢false (sym t ∙ ((exact path).0 (among_front.0 a)).1))) ∙ sym t
    mark (inr t) = not_from_true among (among_front.1 ((exact path).1 ((i, within, sym is), t))) ∙ sym t
