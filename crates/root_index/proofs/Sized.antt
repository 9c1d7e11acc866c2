-- Blocks of an index: each has a path, and those of its paths that stand no higher than one stand first.
use Rattle.std.proofs.Common.{◌≡◌, refl, sym, ◌∙◌, ap, subst, ℕ, suc, ◌+◌, ◌-◌, ◌<◌, ◌≤◌, List, [], ◌∷◌, ◌++◌, length, take, drop, reverse, get_or, Bool, true, arith}
use Rattle.std.specs.Prelude.{All, slice_index_or}
use Rattle.std.specs.List.{prefix_len}
use Rattle.std.specs.List.Sorted.{IsPartitionedBy}
use Rattle.std.specs.Ordering.{is_le, ordering_index}
use Rattle.std.specs.declared.cmp.Ordering.{Ordering}
use Rattle.std.specs.declared.cmp.Ordering.TheVariants.{Less, Equal, Greater}
use Rattle.std.proofs.lemmas.List.{get_or_read, length-drop, reverse-append, append_assoc, take-append-drop}
use Rattle.std.proofs.lemmas.List.Elements.{All-weaker}
use Rattle.std.proofs.lemmas.List.Sorted.{searchable_from_sorted}
use Rattle.std.proofs.lemmas.List.Sums.{prefix_len-le-length}
use Rattle.root_index.specs.Roots.{RootPath, AreByRank, rank, rank_cmp}
use Rattle.root_index.specs.Blocks.{IsBlock, AreStarts, all_paths, first_passes, is_up_to}
use Rattle.root_index.proofs.KeyOrders.{rank_cmp_total}
use Rattle.root_index.proofs.InBlocks.{HasSome, parted_block, end_is, end_in}

pub blocks_filled : (blocks : List (List RootPath)) → All IsBlock blocks → All HasSome blocks
blocks_filled blocks sizes = All-weaker IsBlock HasSome (λ b size. size.some) blocks sizes

up_front : (a b : Ordering) → ordering_index a ≤ ordering_index b → is_le b ≡ true → is_le a ≡ true
up_front Less b h e = refl
up_front Equal b h e = refl
up_front Greater Less h e = absurd (omega (arith, h))
up_front Greater Equal h e = absurd (omega (arith, h))
up_front Greater Greater h e = e

pub parted_up_to : (p : RootPath) (ps : List RootPath) → AreByRank ps → IsPartitionedBy (is_up_to p) ps
parted_up_to p ps sorted i j d le h e =
    up_front (rank_cmp (rank (get_or ps i d)) (rank p)) (rank_cmp (rank (get_or ps j d)) (rank p)) (searchable_from_sorted rank_cmp_total rank ps (rank p) sorted i j d le h) e

-- the place that the halving found
pub no_place : (p : RootPath) (blocks : List (List RootPath)) → All HasSome blocks → AreByRank (all_paths blocks) → prefix_len (first_passes (is_up_to p)) blocks ≡ 0
    → prefix_len (is_up_to p) (all_paths blocks) ≡ 0
no_place p blocks sizes sorted none =
    end_is (is_up_to p) blocks sizes (parted_up_to p (all_paths blocks) sorted) ∙ ap (λ n. end_in (is_up_to p) n blocks) none

pub some_place : (p : RootPath) (blocks : List (List RootPath)) (k : ℕ) → All HasSome blocks → AreByRank (all_paths blocks) → prefix_len (first_passes (is_up_to p)) blocks ≡ suc k
    → prefix_len (is_up_to p) (all_paths blocks) ≡ length (all_paths (take k blocks)) + prefix_len (is_up_to p) (get_or blocks k [])
some_place p blocks k sizes sorted some =
    end_is (is_up_to p) blocks sizes (parted_up_to p (all_paths blocks) sorted) ∙ ap (λ n. end_in (is_up_to p) n blocks) some

-- the last paths are cut off, as a block of their own
pub cut_off : (slots rest last whole : List RootPath) (blocks more : List (List RootPath)) (at : ℕ) → rest ≡ take at slots → last ≡ drop at slots → more ≡ blocks ++ last ∷ []
    → slots ++ all_paths (reverse blocks) ≡ whole → rest ++ all_paths (reverse more) ≡ whole
cut_off slots rest last whole blocks more at front back added e =
    (λ i. front i ++ all_paths (reverse (added i))) ∙ ap (λ bs. take at slots ++ all_paths bs) (reverse-append blocks (last ∷ []))
    ∙ ap (λ b. take at slots ++ (b ++ all_paths (reverse blocks))) back
    ∙ sym (append_assoc (take at slots) (drop at slots) (all_paths (reverse blocks)))
    ∙ ap (λ ps. ps ++ all_paths (reverse blocks)) (take-append-drop at slots) ∙ e

pub half_block : (slots last : List RootPath) (n : ℕ) → n ≡ length slots → 64 < n → last ≡ drop (n - 32) slots → IsBlock last
half_block slots last n count many is =
    let cut : length (drop (n - 32) slots) ≡ length slots - (n - 32) = length-drop (n - 32) slots in
    let same = ap length is in
    record { some = omega (arith, cut, same, count, many); few = omega (arith, cut, same, count, many) }

-- where a key ends, by the blocks that begin within it
pub none_within : (t : RootPath → Bool) (blocks : List (List RootPath)) (n : ℕ) (ps : List RootPath) → All HasSome blocks → all_paths blocks ≡ ps → IsPartitionedBy t ps
    → n ≡ prefix_len (first_passes t) blocks → n ≡ 0 → 0 ≡ prefix_len t ps
none_within t blocks n ps sizes whole parted count none =
    sym (ap (prefix_len t) (sym whole) ∙ end_is t blocks sizes (subst (IsPartitionedBy t) (sym whole) parted) ∙ ap (λ k. end_in t k blocks) (sym count ∙ none))

pub some_within : (t : RootPath → Bool) (blocks : List (List RootPath)) (n start o : ℕ) (m ps : List RootPath) → All HasSome blocks → all_paths blocks ≡ ps → IsPartitionedBy t ps
    → n ≡ prefix_len (first_passes t) blocks → (n ≡ 0 → ⊥) → m ≡ get_or blocks (n - 1) m → start ≡ length (all_paths (take (n - 1) blocks)) → o ≡ prefix_len t m
    → start + o ≡ prefix_len t ps
some_within t blocks n start o m ps sizes whole parted count some here at place =
    let within : prefix_len (first_passes t) blocks ≤ length blocks = prefix_len-le-length (first_passes t) blocks in
    let inside : n - 1 < length blocks = omega (arith, within, count, some) in
    let more : prefix_len (first_passes t) blocks ≡ suc (n - 1) = omega (arith, count, some) in
    let same : get_or blocks (n - 1) [] ≡ m = sym (get_or_read blocks (n - 1) m inside here []) in
    let told : prefix_len t ps ≡ length (all_paths (take (n - 1) blocks)) + prefix_len t m
    = ap (prefix_len t) (sym whole) ∙ end_is t blocks sizes (subst (IsPartitionedBy t) (sym whole) parted) ∙ ap (λ k. end_in t k blocks) more
    ∙ ap (λ b. length (all_paths (take (n - 1) blocks)) + prefix_len t b) same in
    omega (arith, told, at, place)

-- the last block that begins within a key, of the blocks as they were read
module _ (t : RootPath → Bool) (blocks read : List (List RootPath)) (n : ℕ) (m ps : List RootPath) (same : read ≡ blocks) (whole : all_paths blocks ≡ ps) (parted : IsPartitionedBy t ps) (bound : n ≤ length read) (some : n ≡ 0 → ⊥) (here : m ≡ get_or read (n - 1) m) where
  there : m ≡ get_or blocks (n - 1) m
  there = here ∙ ap (λ (bs : List (List RootPath)). get_or bs (n - 1) m) same

  inside : n - 1 < length blocks
  inside = let count = ap length same in omega (arith, bound, some, count)

  pub last_parted : IsPartitionedBy t m
  last_parted = subst (IsPartitionedBy t) (sym there) (parted_block t blocks (n - 1) m inside (subst (IsPartitionedBy t) (sym whole) parted))

  -- where the key ends
  pub last_end : (starts : List ℕ) (start o : ℕ) → All HasSome blocks → AreStarts starts blocks → n ≡ prefix_len (first_passes t) read
      → start ≡ slice_index_or starts (n - 1) start → o ≡ prefix_len t m → start + o ≡ prefix_len t ps
  last_end starts start o sizes are count at place =
      some_within t blocks n start o m ps sizes whole parted (count ∙ ap (prefix_len (first_passes t)) same) some there (at ∙ are.each (n - 1) start inside) place

-- so many are no more than there are
pub end_bound : (t : RootPath → Bool) (ps : List RootPath) (n : ℕ) → n ≡ prefix_len t ps → n ≤ length ps
end_bound t ps n is = let most = prefix_len-le-length t ps in omega (arith, is, most)
