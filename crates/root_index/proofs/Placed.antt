-- A path put into blocks, or taken out of them, at the place that halving found.
use Rattle.std.proofs.Common.{◌≡◌, sym, ◌∙◌, ap, ℕ, suc, ◌+◌, ◌-◌, ◌<◌, ◌≤◌, List, [], ◌∷◌, ◌++◌, length, take, drop, get_or, Bool, true, cond, not, arith}
use Rattle.std.specs.Prelude.{All}
use Rattle.std.specs.List.{filter, prefix_len, insert, remove}
use Rattle.std.proofs.lemmas.Bool.{false≢true}
use Rattle.std.proofs.lemmas.List.{get_or_append_left, get_or-append-add, get_or_read}
use Rattle.std.proofs.lemmas.List.Sums.{prefix_len_passes, prefix_len-le-length}
use Rattle.root_index.specs.Roots.{RootPath, AreByRank, rank, rank_cmp}
use Rattle.root_index.specs.Blocks.{IsBlock, IsEndOf, IsStrict, all_paths, first_passes, is_up_to, is_tied}
use Rattle.root_index.proofs.KeyOrders.{rank_cmp_total}
use Rattle.root_index.proofs.InBlocks.{around, put_into, taken_from}
use Rattle.root_index.proofs.Ranked.{out_at, taken_out}
use Rattle.root_index.proofs.Sized.{blocks_filled, some_place}

pub begun : (q : RootPath → Bool) (m : List RootPath) → first_passes q m ≡ true → 0 < prefix_len q m
begun q [] e = absurd (false≢true e)
begun q (x ∷ xs) e = let more : prefix_len q (x ∷ xs) ≡ 1 + prefix_len q xs = ap (λ b. cond b (1 + prefix_len q xs) 0) e in omega (arith, more)

-- the place behind those that stand no higher, in the last block that begins no higher
pub place_found : (p : RootPath) (blocks : List (List RootPath)) (n o : ℕ) (m : List RootPath) → All IsBlock blocks → AreByRank (all_paths blocks)
    → n ≡ prefix_len (first_passes (is_up_to p)) blocks → (n ≡ 0 → ⊥) → m ≡ get_or blocks (n - 1) m → o ≡ prefix_len (is_up_to p) m
    → IsEndOf (is_up_to p) blocks (n - 1) o × (0 < o)
place_found p blocks n o m sizes sorted count some here place =
    let within : prefix_len (first_passes (is_up_to p)) blocks ≤ length blocks = prefix_len-le-length (first_passes (is_up_to p)) blocks in
    let inside : n - 1 < length blocks = omega (arith, within, count, some) in
    let more : prefix_len (first_passes (is_up_to p)) blocks ≡ suc (n - 1) = omega (arith, count, some) in
    let same : get_or blocks (n - 1) [] ≡ m = sym (get_or_read blocks (n - 1) m inside here []) in
    let fits : prefix_len (is_up_to p) m ≤ length m = prefix_len-le-length (is_up_to p) m in
    let passes : first_passes (is_up_to p) m ≡ true
    = ap (first_passes (is_up_to p)) here ∙ prefix_len_passes (first_passes (is_up_to p)) blocks (n - 1) m (omega (arith, more)) in
    let one : 0 < prefix_len (is_up_to p) m = begun (is_up_to p) m passes in (
      record {
        in_range = inside;
        inside = λ d. let e : length m ≡ length (get_or blocks (n - 1) d) = ap length (get_or_read blocks (n - 1) m inside here d) in omega (arith, e, fits, place);
        here = some_place p blocks (n - 1) (blocks_filled blocks sizes) sorted more
            ∙ ap (λ xs. length (all_paths (take (n - 1) blocks)) + prefix_len (is_up_to p) xs) same
            ∙ ap (λ k. length (all_paths (take (n - 1) blocks)) + k) (sym place);
      },
      omega (arith, one, place),
    )

module _ (p : RootPath) (blocks : List (List RootPath)) (k o : ℕ) (m : List RootPath) (here : m ≡ get_or blocks k m) (end : IsEndOf (is_up_to p) blocks k o) where
  whole : all_paths blocks ≡ all_paths (take k blocks) ++ (m ++ all_paths (drop (k + 1) blocks))
  whole = around blocks k m end.in_range ∙ ap (λ b. all_paths (take k blocks) ++ (b ++ all_paths (drop (k + 1) blocks))) (sym here)

  fits : o ≤ length m
  fits = let le = end.inside m in let e = ap length here in omega (arith, le, e)

  pub last_inside : 0 < o → o - 1 < length m
  last_inside some = let le = fits in omega (arith, some, le)

  pub put_there : (x : RootPath) → all_paths (take k blocks) ++ (insert m o x ++ all_paths (drop (k + 1) blocks)) ≡ insert (all_paths blocks) (prefix_len (is_up_to p) (all_paths blocks)) x
  put_there x =
      put_into (all_paths (take k blocks)) m (all_paths (drop (k + 1) blocks)) o x fits
      ∙ (λ i. insert (sym whole i) (sym end.here i) x)

  pub out_there : 0 < o → IsStrict (all_paths blocks)
      → filter (λ (q : RootPath). not (is_tied p q)) (all_paths blocks)
      ≡ cond (is_tied p (get_or m (o - 1) p)) (all_paths (take k blocks) ++ (remove m (o - 1) ++ all_paths (drop (k + 1) blocks))) (all_paths blocks)
  out_there some strict =
      let lt : o - 1 < length m = let le = fits in omega (arith, some, le) in
      let place : ℕ = length (all_paths (take k blocks)) + (o - 1) in
      let count : prefix_len (is_up_to p) (all_paths blocks) ≡ suc (length (all_paths (take k blocks)) + (o - 1)) = let e = end.here in omega (arith, e, some) in
      let found : get_or (all_paths blocks) (length (all_paths (take k blocks)) + (o - 1)) p ≡ get_or m (o - 1) p
      = ap (λ xs. get_or xs (length (all_paths (take k blocks)) + (o - 1)) p) whole
      ∙ get_or-append-add (all_paths (take k blocks)) (m ++ all_paths (drop (k + 1) blocks)) (o - 1) p
      ∙ get_or_append_left m (all_paths (drop (k + 1) blocks)) p (o - 1) lt in
      let gone : remove (all_paths blocks) (length (all_paths (take k blocks)) + (o - 1)) ≡ all_paths (take k blocks) ++ (remove m (o - 1) ++ all_paths (drop (k + 1) blocks))
      = ap (λ xs. remove xs (length (all_paths (take k blocks)) + (o - 1))) whole
      ∙ sym (taken_from (all_paths (take k blocks)) m (all_paths (drop (k + 1) blocks)) (o - 1) lt) in
      taken_out rank_cmp rank_cmp_total rank p (all_paths blocks) strict
      ∙ ap (λ n. out_at rank_cmp rank_cmp_total rank p n (all_paths blocks)) count
      ∙ (λ i. cond (is_tied p (found i)) (gone i) (all_paths blocks))

pub none_there : (p : RootPath) (blocks : List (List RootPath)) → IsStrict (all_paths blocks) → prefix_len (is_up_to p) (all_paths blocks) ≡ 0
    → filter (λ (q : RootPath). not (is_tied p q)) (all_paths blocks) ≡ all_paths blocks
none_there p blocks strict none =
    taken_out rank_cmp rank_cmp_total rank p (all_paths blocks) strict ∙ ap (λ n. out_at rank_cmp rank_cmp_total rank p n (all_paths blocks)) none
