-- Elements in blocks, one block after the other: where the first ones that pass a test end, and what an element put
-- into a block, or taken out of it, makes of all of them.
use Rattle.std.proofs.Common.{◌≡◌, refl, sym, ◌∙◌, ap, subst, ℕ, zero, suc, ◌+◌, ◌-◌, ◌<◌, ◌≤◌, List, [], ◌∷◌, ◌++◌, length, take, drop, get_or, Bool, true, false, cond, eqb, arith}
use Rattle.std.specs.List.{flat_map, prefix_len, insert, remove, All}
use Rattle.std.specs.List.Sorted.{IsPartitionedBy}
use Rattle.std.proofs.lemmas.Bool.Decides.{nat_tests}
use Rattle.std.proofs.lemmas.List.{length-append, take-append-drop, take-take, drop_more, get_or_append_left, get_or-append-add}
use Rattle.std.proofs.lemmas.List.Concat.{flat_map-append, get_or-flat_map}
use Rattle.std.proofs.lemmas.List.Edits.{insert-append_left, insert-append_right, remove-append_left, remove-append_right}
use Rattle.std.proofs.lemmas.List.Elements.{All-head, All-tail, All-get_or}
use Rattle.std.proofs.lemmas.List.Folds.{prefix_len-append}
use Rattle.std.proofs.lemmas.List.Sums.{prefix_len_is}

module _ {X : Type 0} where
  abbrev pub all_of : List (List X) → List X
  all_of blocks = flat_map (λ (block : List X). block) blocks

  abbrev pub first_passes : (X → Bool) → List X → Bool
  first_passes p [] = false
  first_passes p (x ∷ xs) = p x

  abbrev pub HasSome : List X → Type 0
  HasSome block = 1 ≤ length block

  pub one_is : (xs : List X) (x : X) → length xs ≡ 1 → x ≡ get_or xs 0 x → x ∷ [] ≡ xs
  one_is [] x one is = absurd (omega (arith, one))
  one_is (y ∷ []) x one is = ap (λ z. z ∷ []) is
  one_is (y ∷ z ∷ xs) x one is = absurd (omega (arith, one))

  -- the block at a place among the others
  pub around : (blocks : List (List X)) (k : ℕ) (d : List X) → k < length blocks
      → all_of blocks ≡ all_of (take k blocks) ++ (get_or blocks k d ++ all_of (drop (k + 1) blocks))
  around blocks k d h =
      sym (ap all_of (take-append-drop k blocks)) ∙ flat_map-append (λ (b : List X). b) (take k blocks) (drop k blocks)
      ∙ ap (λ bs. all_of (take k blocks) ++ all_of bs) (drop_more blocks k d h)

  -- an element put into a block
  pub put_into : (f m b : List X) (o : ℕ) (x : X) → o ≤ length m → f ++ (insert m o x ++ b) ≡ insert (f ++ (m ++ b)) (length f + o) x
  put_into f m b o x h =
      let there : (length f + o) - length f ≡ o = omega arith in
      ap (λ r. f ++ r) (sym (insert-append_left m b o x h))
      ∙ ap (λ n. f ++ insert (m ++ b) n x) (sym there)
      ∙ sym (insert-append_right f (m ++ b) (length f) (length f + o) x refl (omega arith))

  -- one taken out
  pub taken_from : (f m b : List X) (o : ℕ) → o < length m → f ++ (remove m o ++ b) ≡ remove (f ++ (m ++ b)) (length f + o)
  taken_from f m b o h =
      let there : (length f + o) - length f ≡ o = omega arith in
      ap (λ r. f ++ r) (sym (remove-append_left m b o h))
      ∙ ap (λ n. f ++ remove (m ++ b) n) (sym there)
      ∙ sym (remove-append_right f (m ++ b) (length f) (length f + o) refl (omega arith))

  -- later blocks begin no earlier
  pub further : (blocks : List (List X)) (i j : ℕ) → i ≤ j → length (all_of (take i blocks)) ≤ length (all_of (take j blocks))
  further blocks i j le =
      let split : all_of (take j blocks) ≡ all_of (take i blocks) ++ all_of (drop i (take j blocks))
      = sym (ap all_of (take-append-drop i (take j blocks))) ∙ flat_map-append (λ (b : List X). b) (take i (take j blocks)) (drop i (take j blocks))
      ∙ ap (λ bs. all_of bs ++ all_of (drop i (take j blocks))) (take-take i j blocks le) in
      let long : length (all_of (take i blocks) ++ all_of (drop i (take j blocks))) ≡ length (all_of (take i blocks)) + length (all_of (drop i (take j blocks)))
      = length-append (all_of (take i blocks)) (all_of (drop i (take j blocks))) in
      let same = ap length split in
      omega (arith, long, same)

  -- the first elements that pass a test, by the blocks whose first element passes it
  module _ (p : X → Bool) where
    abbrev pub end_in : ℕ → List (List X) → ℕ
    end_in zero blocks = 0
    end_in (suc k) blocks = length (all_of (take k blocks)) + prefix_len p (get_or blocks k [])

    parted_rest : (f b : List X) → IsPartitionedBy p (f ++ b) → IsPartitionedBy p b
    parted_rest f b parted i j d le h e =
        let long : length (f ++ b) ≡ length f + length b = length-append f b in
        ap p (sym (get_or-append-add f b i d))
        ∙ parted (length f + i) (length f + j) d (omega (arith, le)) (omega (arith, h, long)) (ap p (get_or-append-add f b j d) ∙ e)

    parted_first : (f b : List X) → IsPartitionedBy p (f ++ b) → IsPartitionedBy p f
    parted_first f b parted i j d le h e =
        let long : length (f ++ b) ≡ length f + length b = length-append f b in
        ap p (sym (get_or_append_left f b d i (omega (arith, le, h))))
        ∙ parted i j d le (omega (arith, h, long)) (ap p (get_or_append_left f b d j h) ∙ e)

    -- of one block alone
    pub parted_block : (blocks : List (List X)) (k : ℕ) (d : List X) → k < length blocks → IsPartitionedBy p (all_of blocks) → IsPartitionedBy p (get_or blocks k d)
    parted_block blocks k d h parted =
        parted_first (get_or blocks k d) (all_of (drop (k + 1) blocks))
        (parted_rest (all_of (take k blocks)) (get_or blocks k d ++ all_of (drop (k + 1) blocks)) (subst (IsPartitionedBy p) (around blocks k d h) parted))

    -- where a later block begins with one that passes, all of an earlier one pass
    all_before : (m : List X) (blocks : List (List X)) → IsPartitionedBy p (m ++ all_of blocks) → 0 < prefix_len (first_passes p) blocks → prefix_len p m ≡ length m
    all_before m [] parted h = absurd (omega (arith, h))
    all_before m ([] ∷ blocks) parted h = absurd (omega (arith, h))
    all_before m ((y ∷ ys) ∷ blocks) parted h = by (p y) refl
      where
        by : (b : Bool) → p y ≡ b → prefix_len p m ≡ length m
        by false e = absurd (let none : prefix_len (first_passes p) ((y ∷ ys) ∷ blocks) ≡ 0 = ap (λ b. cond b (1 + prefix_len (first_passes p) blocks) 0) e in omega (arith, h, none))
        by true e =
            let long : length (m ++ (y ∷ (ys ++ all_of blocks))) ≡ length m + suc (length (ys ++ all_of blocks)) = length-append m (y ∷ (ys ++ all_of blocks)) in
            let zero_on : length m + 0 ≡ length m = omega arith in
            prefix_len_is p m (length m) y (omega arith)
            (λ k below. ap p (sym (get_or_append_left m (y ∷ (ys ++ all_of blocks)) y k below))
            ∙ parted k (length m) y (omega (arith, below)) (omega (arith, long))
            (ap (λ n. p (get_or (m ++ (y ∷ (ys ++ all_of blocks))) n y)) (sym zero_on) ∙ ap p (get_or-append-add m (y ∷ (ys ++ all_of blocks)) 0 y) ∙ e))
            (λ past. absurd (omega (arith, past)))

    stop_here : (a n r : ℕ) → r ≡ 0 → cond (eqb a n) (n + r) a ≡ a
    stop_here a n r h = grind (arith, nat_tests, h)

    go_on : (a n r : ℕ) → a ≡ n → cond (eqb a n) (n + r) a ≡ n + r
    go_on a n r h = grind (arith, nat_tests, h)

    pub end_is : (blocks : List (List X)) → All HasSome blocks → IsPartitionedBy p (all_of blocks) → prefix_len p (all_of blocks) ≡ end_in (prefix_len (first_passes p) blocks) blocks
    end_is [] some parted = refl
    end_is ([] ∷ blocks) some parted = absurd (let one = All-head HasSome [] blocks some in omega (arith, one))
    end_is ((x ∷ xs) ∷ blocks) some parted =
        by (p x) refl (prefix_len (first_passes p) blocks) refl (end_is blocks (All-tail HasSome (x ∷ xs) blocks some) (parted_rest (x ∷ xs) (all_of blocks) parted))
      where
        by : (b : Bool) → p x ≡ b → (n : ℕ) → prefix_len (first_passes p) blocks ≡ n → prefix_len p (all_of blocks) ≡ end_in n blocks
            → prefix_len p (all_of ((x ∷ xs) ∷ blocks)) ≡ end_in (prefix_len (first_passes p) ((x ∷ xs) ∷ blocks)) ((x ∷ xs) ∷ blocks)
        by false e n f rest =
            ap (λ b. cond b (1 + prefix_len p (xs ++ all_of blocks)) 0) e
            ∙ sym (ap (λ b. end_in (cond b (1 + prefix_len (first_passes p) blocks) 0) ((x ∷ xs) ∷ blocks)) e)
        by true e n f rest =
            let more : 1 + n ≡ suc n = omega arith in
            whole n f rest
            ∙ sym (ap (λ b. end_in (cond b (1 + prefix_len (first_passes p) blocks) 0) ((x ∷ xs) ∷ blocks)) e
            ∙ ap (λ m. end_in (1 + m) ((x ∷ xs) ∷ blocks)) f ∙ ap (λ m. end_in m ((x ∷ xs) ∷ blocks)) more)
          where
            whole : (n : ℕ) → prefix_len (first_passes p) blocks ≡ n → prefix_len p (all_of blocks) ≡ end_in n blocks → prefix_len p ((x ∷ xs) ++ all_of blocks) ≡ end_in (suc n) ((x ∷ xs) ∷ blocks)
            whole zero f rest =
                let none : 0 + prefix_len p (x ∷ xs) ≡ prefix_len p (x ∷ xs) = omega arith in
                prefix_len-append p (x ∷ xs) (all_of blocks) ∙ stop_here (prefix_len p (x ∷ xs)) (length (x ∷ xs)) (prefix_len p (all_of blocks)) rest ∙ sym none
            whole (suc k) f rest =
                let some : 0 < prefix_len (first_passes p) blocks = omega (arith, f) in
                let long : length ((x ∷ xs) ++ all_of (take k blocks)) ≡ length (x ∷ xs) + length (all_of (take k blocks)) = length-append (x ∷ xs) (all_of (take k blocks)) in
                let told : prefix_len p ((x ∷ xs) ++ all_of blocks) ≡ length (x ∷ xs) + prefix_len p (all_of blocks)
                = prefix_len-append p (x ∷ xs) (all_of blocks) ∙ go_on (prefix_len p (x ∷ xs)) (length (x ∷ xs)) (prefix_len p (all_of blocks)) (all_before (x ∷ xs) blocks parted some) in
                omega (arith, told, rest, long)

    -- the blocks are in order by their first elements
    begins_at : (blocks : List (List X)) (k : ℕ) (d : X) (e : List X) → All HasSome blocks → k < length blocks
        → first_passes p (get_or blocks k e) ≡ p (get_or (all_of blocks) (length (all_of (take k blocks))) d)
    begins_at blocks k d e some h =
        let one : 1 ≤ length (get_or blocks k e) = All-get_or HasSome blocks k e h some in
        let none : length (all_of (take k blocks)) + 0 ≡ length (all_of (take k blocks)) = omega arith in
        first_is (get_or blocks k e) one
        ∙ ap p (sym (get_or-flat_map (λ (b : List X). b) blocks k 0 e d h (omega (arith, one))) ∙ ap (λ n. get_or (all_of blocks) n d) none)
      where
        first_is : (m : List X) → 1 ≤ length m → first_passes p m ≡ p (get_or m 0 d)
        first_is [] one = absurd (omega (arith, one))
        first_is (x ∷ xs) one = refl

    pub parted_blocks : (blocks : List (List X)) → All HasSome blocks → IsPartitionedBy p (all_of blocks) → IsPartitionedBy (first_passes p) blocks
    parted_blocks blocks some parted i j e le h passed =
        let one : 1 ≤ length (get_or blocks j e) = All-get_or HasSome blocks j e h some in
        by (get_or blocks j e) refl one
      where
        by : (m : List X) → get_or blocks j e ≡ m → 1 ≤ length m → first_passes p (get_or blocks i e) ≡ true
        by [] is one = absurd (omega (arith, one))
        by (x ∷ xs) is one =
            let whole : length (all_of blocks) ≡ length (all_of (take j blocks)) + length (get_or blocks j e ++ all_of (drop (j + 1) blocks))
            = ap length (around blocks j e h) ∙ length-append (all_of (take j blocks)) (get_or blocks j e ++ all_of (drop (j + 1) blocks)) in
            let here : length (get_or blocks j e ++ all_of (drop (j + 1) blocks)) ≡ length (get_or blocks j e) + length (all_of (drop (j + 1) blocks))
            = length-append (get_or blocks j e) (all_of (drop (j + 1) blocks)) in
            let some_here : length (get_or blocks j e) ≡ suc (length xs) = ap length is in
            begins_at blocks i x e some (omega (arith, le, h))
            ∙ parted (length (all_of (take i blocks))) (length (all_of (take j blocks))) x (further blocks i j le) (omega (arith, whole, here, some_here))
            (sym (begins_at blocks j x e some h) ∙ passed)
