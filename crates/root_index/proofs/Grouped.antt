-- Blocks in groups: what an edit of one group is to all paths.
use Rattle.std.proofs.Common.{◌≡◌, refl, sym, ◌∙◌, ap, subst, ℕ, zero, suc, ◌+◌, ◌-◌, ◌<◌, ◌≤◌, List, [], ◌∷◌, ◌++◌, length, take, drop, reverse, get_or, Bool, true, false, cond, not, arith, inl, inr}
use Rattle.std.specs.Prelude.{All}
use Rattle.std.specs.List.{AllByRecursion, filter, prefix_len, insert, remove}
use Rattle.std.specs.Ordering.{is_lt}
use Rattle.std.specs.declared.cmp.Ordering.TheVariants.{Less}
use Rattle.std.proofs.lemmas.Bool.{cases_lt}
use Rattle.std.proofs.lemmas.List.{length-append, get_or_append_left, get_or-append-add, get_or_default, append_assoc, reverse-append, take-append-drop}
use Rattle.std.proofs.lemmas.List.Concat.{flat_map-append}
use Rattle.std.proofs.lemmas.List.Elements.{All-head}
use Rattle.std.proofs.lemmas.List.Sums.{prefix_len-le-length, prefix_len_passes, prefix_len_stops}
use Rattle.root_index.specs.Roots.{RootPath, AreByRank, rank, rank_cmp}
use Rattle.root_index.specs.Blocks.{IsBlock, IsEndOf, IsStrict, all_paths, first_passes, is_up_to, is_tied}
use Rattle.root_index.proofs.KeyOrders.{rank_cmp_total}
use Rattle.root_index.proofs.InBlocks.{HasSome, around}
use Rattle.root_index.proofs.Ranked.{out_at, taken_out}
use Rattle.root_index.proofs.Placed.{begun, put_there, out_there, none_there}
use Rattle.root_index.proofs.Sized.{no_place, some_place}

-- one list of several is in order, and strict, where all of them are
sorted_rest : (f b : List RootPath) → AreByRank (f ++ b) → AreByRank b
sorted_rest f b sorted k d from h =
    let long : length (f ++ b) ≡ length f + length b = length-append f b in
    let up : length f + (k + 1) ≡ (length f + k) + 1 = omega arith in
    (λ i. is_lt (rank_cmp (rank (sym (get_or-append-add f b (k + 1) d) i)) (rank (sym (get_or-append-add f b k d) i))))
    ∙ ap (λ n. is_lt (rank_cmp (rank (get_or (f ++ b) n d)) (rank (get_or (f ++ b) (length f + k) d)))) up
    ∙ sorted (length f + k) d (omega arith) (omega (arith, h, long))

sorted_first : (f b : List RootPath) → AreByRank (f ++ b) → AreByRank f
sorted_first f b sorted k d from h =
    let long : length (f ++ b) ≡ length f + length b = length-append f b in
    (λ i. is_lt (rank_cmp (rank (sym (get_or_append_left f b d (k + 1) h) i)) (rank (sym (get_or_append_left f b d k (omega (arith, h))) i))))
    ∙ sorted k d from (omega (arith, h, long))

each_first : (P : RootPath → Type 0) (f b : List RootPath) → AllByRecursion P (f ++ b) → AllByRecursion P f
each_first P [] b all = tt
each_first P (x ∷ f) b all = (all.0, each_first P f b all.1)

strict_first : (f b : List RootPath) → IsStrict (f ++ b) → IsStrict f
strict_first [] b strict = tt
strict_first (x ∷ f) b strict = (each_first (λ (q : RootPath). rank_cmp (rank x) (rank q) ≡ Less) f b strict.0, strict_first f b strict.1)

strict_rest : (f b : List RootPath) → IsStrict (f ++ b) → IsStrict b
strict_rest [] b strict = strict
strict_rest (x ∷ f) b strict = strict_rest f b strict.1

module _ (groups : List (List RootPath)) (k : ℕ) (m : List RootPath) (inside : k < length groups) (here : m ≡ get_or groups k m) where
  whole_is : all_paths groups ≡ all_paths (take k groups) ++ (m ++ all_paths (drop (k + 1) groups))
  whole_is = around groups k m inside ∙ ap (λ b. all_paths (take k groups) ++ (b ++ all_paths (drop (k + 1) groups))) (sym here)

  pub sorted_group : AreByRank (all_paths groups) → AreByRank m
  sorted_group sorted =
      sorted_first m (all_paths (drop (k + 1) groups))
      (sorted_rest (all_paths (take k groups)) (m ++ all_paths (drop (k + 1) groups)) (subst AreByRank whole_is sorted))

  pub strict_group : IsStrict (all_paths groups) → IsStrict m
  strict_group strict =
      strict_first m (all_paths (drop (k + 1) groups))
      (strict_rest (all_paths (take k groups)) (m ++ all_paths (drop (k + 1) groups)) (subst IsStrict whole_is strict))

-- the group that halving found
none_up_to : (q : RootPath → Bool) (m : List RootPath) → first_passes q m ≡ false → prefix_len q m ≡ 0
none_up_to q [] e = refl
none_up_to q (x ∷ xs) e = ap (λ b. cond b (1 + prefix_len q xs) 0) e

pub group_found : (p : RootPath) (groups : List (List RootPath)) (n k : ℕ) → All HasSome groups → AreByRank (all_paths groups) → n ≡ prefix_len (first_passes (is_up_to p)) groups
    → 0 < length groups → k ≡ n - 1 → IsEndOf (is_up_to p) groups k (prefix_len (is_up_to p) (get_or groups k []))
group_found p groups n k sizes sorted count some at =
    record { in_range = in_range; inside = λ d. fits d; here = here }
  where
    bound : prefix_len (first_passes (is_up_to p)) groups ≤ length groups
    bound = prefix_len-le-length (first_passes (is_up_to p)) groups

    in_range : k < length groups
    in_range = let b = bound in omega (arith, b, count, some, at)

    fits : (d : List RootPath) → prefix_len (is_up_to p) (get_or groups k []) ≤ length (get_or groups k d)
    fits d =
        let le : prefix_len (is_up_to p) (get_or groups k []) ≤ length (get_or groups k []) = prefix_len-le-length (is_up_to p) (get_or groups k []) in
        let same : length (get_or groups k []) ≡ length (get_or groups k d) = ap length (get_or_default groups k [] d in_range) in
        omega (arith, le, same)

    here : prefix_len (is_up_to p) (all_paths groups) ≡ length (all_paths (take k groups)) + prefix_len (is_up_to p) (get_or groups k [])
    here = elim (cases_lt 0 n) [
      | inl one ↦ some_place p groups k sizes sorted (omega (arith, count, one, at))
      | inr none ↦
          let zero_up : prefix_len (first_passes (is_up_to p)) groups ≡ 0 = omega (arith, count, none) in
          let first : k ≡ 0 = omega (arith, none, at) in
          let not_first : first_passes (is_up_to p) (get_or groups k []) ≡ false
          = ap (λ j. first_passes (is_up_to p) (get_or groups j [])) (first ∙ sym zero_up)
          ∙ prefix_len_stops (first_passes (is_up_to p)) groups [] (omega (arith, zero_up, some)) in
          let all_none : prefix_len (is_up_to p) (all_paths groups) ≡ 0 = no_place p groups sizes sorted zero_up in
          let here_none : prefix_len (is_up_to p) (get_or groups k []) ≡ 0 = none_up_to (is_up_to p) (get_or groups k []) not_first in
          let front : length (all_paths (take k groups)) ≡ 0 = ap (λ j. length (all_paths (take j groups))) first in
          omega (arith, all_none, here_none, front)
    ]

pub group_begun : (p : RootPath) (groups : List (List RootPath)) (n k : ℕ) → n ≡ prefix_len (first_passes (is_up_to p)) groups → k ≡ n - 1 → 0 < k
    → 0 < prefix_len (is_up_to p) (get_or groups k [])
group_begun p groups n k count at some =
    begun (is_up_to p) (get_or groups k []) (prefix_len_passes (first_passes (is_up_to p)) groups k [] (omega (arith, count, at, some)))

module _ (p : RootPath) (groups : List (List RootPath)) (k : ℕ) (m : List RootPath) (here : m ≡ get_or groups k m)
    (end : IsEndOf (is_up_to p) groups k (prefix_len (is_up_to p) (get_or groups k []))) where
  same_group : get_or groups k [] ≡ m
  same_group = get_or_default groups k [] m end.in_range ∙ sym here

  end_here : IsEndOf (is_up_to p) groups k (prefix_len (is_up_to p) m)
  end_here = subst (λ (x : List RootPath). IsEndOf (is_up_to p) groups k (prefix_len (is_up_to p) x)) same_group end

  -- a path put into it
  pub put_in_group : (x : RootPath) → all_paths (take k groups) ++ (insert m (prefix_len (is_up_to p) m) x ++ all_paths (drop (k + 1) groups))
      ≡ insert (all_paths groups) (prefix_len (is_up_to p) (all_paths groups)) x
  put_in_group x = put_there p groups k (prefix_len (is_up_to p) m) m here end_here x

  -- and one taken out of it
  pub out_of_group : (0 < k → 0 < prefix_len (is_up_to p) (get_or groups k [])) → IsStrict (all_paths groups)
      → all_paths (take k groups) ++ (filter (λ (q : RootPath). not (is_tied p q)) m ++ all_paths (drop (k + 1) groups)) ≡ filter (λ (q : RootPath). not (is_tied p q)) (all_paths groups)
  out_of_group first strict = by (prefix_len (is_up_to p) m) refl
    where
      whole : all_paths groups ≡ all_paths (take k groups) ++ (m ++ all_paths (drop (k + 1) groups))
      whole = whole_is groups k m end.in_range here

      inner : filter (λ (q : RootPath). not (is_tied p q)) m ≡ out_at rank_cmp rank_cmp_total rank p (prefix_len (is_up_to p) m) m
      inner = taken_out rank_cmp rank_cmp_total rank p m (strict_group groups k m end.in_range here strict)

      none_before : prefix_len (is_up_to p) m ≡ 0 → prefix_len (is_up_to p) (all_paths groups) ≡ 0
      none_before e = elim (cases_lt 0 k) [
        | inl h ↦
            let some : 0 < prefix_len (is_up_to p) (get_or groups k []) = first h in
            let same : prefix_len (is_up_to p) (get_or groups k []) ≡ prefix_len (is_up_to p) m = ap (prefix_len (is_up_to p)) same_group in
            absurd (omega (arith, some, same, e))
        | inr h ↦
            let at : k ≡ 0 = omega (arith, h) in
            let front : length (all_paths (take k groups)) ≡ 0 = ap (λ j. length (all_paths (take j groups))) at in
            let all : prefix_len (is_up_to p) (all_paths groups) ≡ length (all_paths (take k groups)) + prefix_len (is_up_to p) m = end_here.here in
            omega (arith, all, front, e)
      ]

      pick : (b : Bool) (n : ℕ) → cond b (all_paths (take k groups) ++ (remove m n ++ all_paths (drop (k + 1) groups))) (all_paths groups)
          ≡ all_paths (take k groups) ++ (cond b (remove m n) m ++ all_paths (drop (k + 1) groups))
      pick true n = refl
      pick false n = whole

      by : (n : ℕ) → prefix_len (is_up_to p) m ≡ n
          → all_paths (take k groups) ++ (filter (λ (q : RootPath). not (is_tied p q)) m ++ all_paths (drop (k + 1) groups)) ≡ filter (λ (q : RootPath). not (is_tied p q)) (all_paths groups)
      by zero e =
          ap (λ xs. all_paths (take k groups) ++ (xs ++ all_paths (drop (k + 1) groups))) (inner ∙ ap (λ n. out_at rank_cmp rank_cmp_total rank p n m) e) ∙ sym whole
          ∙ sym (none_there p groups strict (none_before e))
      by (suc n) e =
          let some : 0 < prefix_len (is_up_to p) m = omega (arith, e) in
          let less : prefix_len (is_up_to p) m - 1 ≡ n = omega (arith, e) in
          ap (λ xs. all_paths (take k groups) ++ (xs ++ all_paths (drop (k + 1) groups))) (inner ∙ ap (λ j. out_at rank_cmp rank_cmp_total rank p j m) e)
          ∙ sym (pick (is_tied p (get_or m n p)) n)
          ∙ sym (out_there p groups k (prefix_len (is_up_to p) m) m here end_here some strict
          ∙ ap (λ j. cond (is_tied p (get_or m j p)) (all_paths (take k groups) ++ (remove m j ++ all_paths (drop (k + 1) groups))) (all_paths groups)) less)

-- blocks in two parts
pub in_two : (blocks a b : List (List RootPath)) (at : ℕ) → a ≡ take at blocks → b ≡ drop at blocks → all_paths a ++ all_paths b ≡ all_paths blocks
in_two blocks a b at first rest =
    (λ i. all_paths (first i) ++ all_paths (rest i)) ∙ sym (flat_map-append (λ (x : List RootPath). x) (take at blocks) (drop at blocks)) ∙ ap all_paths (take-append-drop at blocks)

pub some_paths : (blocks : List (List RootPath)) → All IsBlock blocks → 0 < length blocks → 0 < length (all_paths blocks)
some_paths [] sizes h = absurd (omega (arith, h))
some_paths (b ∷ bs) sizes h =
    let one = (All-head IsBlock b bs sizes).some in
    let long : length (b ++ all_paths bs) ≡ length b + length (all_paths bs) = length-append b (all_paths bs) in
    omega (arith, one, long)

-- the last blocks are cut off, as a group of their own
pub cut_group : (whole slots rest last : List RootPath) (groups more : List (List RootPath)) → rest ++ last ≡ slots → more ≡ groups ++ last ∷ []
    → slots ++ all_paths (reverse groups) ≡ whole → rest ++ all_paths (reverse more) ≡ whole
cut_group whole slots rest last groups more parts added e =
    ap (λ gs. rest ++ all_paths (reverse gs)) added
    ∙ ap (λ gs. rest ++ all_paths gs) (reverse-append groups (last ∷ []))
    ∙ sym (append_assoc rest last (all_paths (reverse groups)))
    ∙ ap (λ ps. ps ++ all_paths (reverse groups)) parts ∙ e
