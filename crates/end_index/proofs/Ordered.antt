-- The order of an index's paths, by which those of one key stand together, and look-ups in shares of them.
use Rattle.std.proofs.Common.{◌≡◌, ◌≢◌, refl, sym, ◌∙◌, ap, ℕ, zero, suc, ◌+◌, ◌<◌, ◌≤◌, List, [], ◌∷◌, ◌++◌, length, take, drop, get_or, true, false, cond, arith, All}
use Rattle.std.specs.List.{prefix_len, flat_map}
use Rattle.std.specs.List.Sorted.{IsNonDecreasingBy, IsPartitionedBy, IsSortedByKey}
use Rattle.std.specs.Ordering.{nat_cmp, ordering_index, is_lt, is_eq}
use Rattle.std.specs.Cmp.{IsTotalOrder, IsStrictWeakOrder, then_total, on_total}
use Rattle.std.proofs.lemmas.Bool.Decides.{nat_tests}
use Rattle.std.proofs.lemmas.Cmp.{nat_cmp_total}
use Rattle.std.proofs.lemmas.List.{drop_more, drop_all}
use Rattle.std.proofs.lemmas.List.Elements.{All-head, All-drop}
use Rattle.std.proofs.lemmas.List.Sorted.{ranks_by, searchable_from_sorted}
use Rattle.stacks_vars.specs.declared.patterns.SymPat.{SymPat}
use Rattle.partial_path.specs.Keys.{asked_texts}
use Rattle.partial_path.proofs.KeyOrders.{first_decides}
use Rattle.partial_path.proofs.Halved.{parted_before, there_is}
use Rattle.end_index.specs.declared.place.EndPlace.{EndPlace}
use Rattle.end_index.specs.declared.runs.EndRuns.{EndRuns}
use Rattle.partial_path.specs.Marks.{with_text, end_key}
use Rattle.end_index.specs.Runs.{rank, rank_cmp, AreByRank, side, is_before_run, is_in_run, run, runs_behind, runs, first_in, here, first_at, runs_left, left_of, shares_left}

abbrev Rank : Type 0
Rank = ℕ × (ℕ × ℕ)

rank_cmp_total : IsTotalOrder rank_cmp
rank_cmp_total =
    then_total (on_total (λ (a : Rank). a.0) nat_cmp_total)
    (then_total (on_total (λ (a : Rank). a.1.0) nat_cmp_total) (on_total (λ (a : Rank). a.1.1) nat_cmp_total))

-- paths that a sort by rank leaves are in order
pub order_of_ranks : IsStrictWeakOrder (λ (a : EndPlace) (b : EndPlace). is_lt (rank_cmp (rank a) (rank b)))
order_of_ranks = ranks_by rank_cmp_total rank

-- paths in order stand in order to a run
module _ (key : ℕ) (places : List EndPlace) (sorted : AreByRank places) where
  by_key : IsSortedByKey (λ (p : EndPlace). p.key) nat_cmp places
  by_key k d low high = first_decides _ _ (sorted k d low high)

  rise : IsNonDecreasingBy (λ (p : EndPlace). ordering_index (side key p)) places
  rise = searchable_from_sorted nat_cmp_total (λ (p : EndPlace). p.key) places key by_key

  pub parted : IsPartitionedBy (is_before_run key) places
  parted = parted_before (side key) places rise

  pub run_found : first_in key (drop (prefix_len (is_before_run key) places) places) ≡ run key places
  run_found = there_is (side key) places rise

-- nothing stands before the run of no symbols, whose key is 0
none_below : (x : ℕ) → is_lt (nat_cmp x 0) ≡ false
none_below x = grind (arith, nat_tests)

none_before : (places : List EndPlace) → prefix_len (is_before_run 0) places ≡ 0
none_before [] = refl
none_before (p ∷ places) = ap (λ b. cond b (1 + prefix_len (is_before_run 0) places) 0) (none_below p.key)

pub begins : (asked : List (List ℕ)) (share : ℕ) (places : List EndPlace) → AreByRank places → runs_left asked (first_at share) places ≡ runs asked places
begins asked share places sorted =
    ap (λ (ps : List EndPlace). ps ++ runs_behind 0 0 asked places)
    (sym (ap (λ n. first_in 0 (drop n places)) (none_before places)) ∙ run_found 0 places sorted)

-- of paths from a place on the first is the run's, or none is
first_is : (key : ℕ) (p : EndPlace) (rest : List EndPlace) → is_in_run key p ≡ true → first_in key (p ∷ rest) ≡ p ∷ first_in key rest
first_is key p rest e =
    let more : 1 + prefix_len (is_in_run key) rest ≡ suc (prefix_len (is_in_run key) rest) = omega arith in
    ap (λ n. take n (p ∷ rest)) (ap (λ b. cond b (1 + prefix_len (is_in_run key) rest) 0) e ∙ more)

same_key : (x key : ℕ) → x ≡ key → is_eq (nat_cmp x key) ≡ true
same_key x key e = grind (arith, nat_tests, e)

other_key : (x key : ℕ) → x ≢ key → is_eq (nat_cmp x key) ≡ false
other_key x key e = grind (arith, nat_tests, e)

pub next_is : (at : EndRuns) (places : List EndPlace) (d : EndPlace) → at.place < length places → (get_or places at.place d).key ≡ at.key
    → here at places ≡ get_or places at.place d ∷ here (record at { place = at.place + 1 }) places
next_is at places d inside e =
    ap (first_in at.key) (drop_more places at.place d inside)
    ∙ first_is at.key (get_or places at.place d) (drop (at.place + 1) places) (same_key (get_or places at.place d).key at.key e)

pub next_is_other : (at : EndRuns) (places : List EndPlace) (d : EndPlace) → at.place < length places → (get_or places at.place d).key ≢ at.key → here at places ≡ []
next_is_other at places d inside e =
    ap (first_in at.key) (drop_more places at.place d inside)
    ∙ ap (λ b. take (cond b (1 + prefix_len (is_in_run at.key) (drop (at.place + 1) places)) 0) (get_or places at.place d ∷ drop (at.place + 1) places))
    (other_key (get_or places at.place d).key at.key e)

pub none_here : (at : EndRuns) (places : List EndPlace) → length places ≤ at.place → here at places ≡ []
none_here at places past = ap (first_in at.key) (drop_all at.place places past)

-- the runs behind are the one of one text more, and those behind it
text_at : (symbols : List SymPat) (n : ℕ) (d : SymPat) → n < length symbols
    → drop n (asked_texts symbols) ≡ (get_or symbols n d).symbol ∷ drop (n + 1) (asked_texts symbols)
text_at [] n d h = absurd (omega arith)
text_at (s ∷ symbols) zero d h = refl
text_at (s ∷ symbols) (suc n) d h =
    let next : suc (n + 1) ≡ suc n + 1 = omega arith in
    text_at symbols n d (omega arith) ∙ ap (λ k. (get_or symbols n d).symbol ∷ drop k (asked_texts (s ∷ symbols))) next

pub run_behind : (symbols : List SymPat) (mark n next : ℕ) (d : SymPat) (places : List EndPlace) → n < length symbols → next ≡ with_text mark (get_or symbols n d).symbol
    → runs_behind mark n (drop n (asked_texts symbols)) places ≡ run (end_key next (n + 1)) places ++ runs_behind next (n + 1) (drop (n + 1) (asked_texts symbols)) places
run_behind symbols mark n next d places inside is =
    ap (λ (ts : List (List ℕ)). runs_behind mark n ts places) (text_at symbols n d inside)
    ∙ ap (λ m. run (end_key m (n + 1)) places ++ runs_behind m (n + 1) (drop (n + 1) (asked_texts symbols)) places) (sym is)

pub none_behind : (symbols : List SymPat) (mark n m : ℕ) (places : List EndPlace) → length symbols ≤ n → runs_behind mark m (drop n (asked_texts symbols)) places ≡ []
none_behind symbols mark n m places past = ap (λ (ts : List (List ℕ)). runs_behind mark m ts places) (no_text symbols n past)
  where
    no_text : (symbols : List SymPat) (n : ℕ) → length symbols ≤ n → drop n (asked_texts symbols) ≡ []
    no_text [] zero h = refl
    no_text [] (suc n) h = refl
    no_text (s ∷ symbols) zero h = absurd (omega arith)
    no_text (s ∷ symbols) (suc n) h = no_text symbols n (omega arith)

-- a run that has a path begins with it
pub run_begun : (asked : List (List ℕ)) (at : EndRuns) (mark n : ℕ) (places : List EndPlace) (p : EndPlace) → here at places ≡ run (end_key mark n) places → at.mark ≡ mark → at.asked ≡ n
    → here at places ≡ p ∷ here (record at { place = at.place + 1 }) places
    → run (end_key mark n) places ++ runs_behind mark n (drop n asked) places ≡ p ∷ runs_left asked (record at { place = at.place + 1 }) places
run_begun asked at mark n places p whole m k first =
    (λ i. (sym whole ∙ first) i ++ runs_behind (sym m i) (sym k i) (drop (sym k i) asked) places)

-- before the first of some shares
pub from_first : (asked : List (List ℕ)) (n : ℕ) (shares : List (List EndPlace)) → All AreByRank shares → left_of asked (first_at n) shares ≡ flat_map (runs asked) shares
from_first asked n [] order = refl
from_first asked n (places ∷ shares) order =
    ap (λ (ps : List EndPlace). ps ++ flat_map (runs asked) shares) (begins asked n places (All-head AreByRank places shares order))

-- the shares behind one that has no more
pub behind_share : (asked : List (List ℕ)) (at next : EndRuns) (shares : List (List EndPlace)) (d : List EndPlace) → All AreByRank shares → at.share < length shares
    → runs_left asked at (get_or shares at.share d) ≡ [] → next ≡ first_at (at.share + 1) → shares_left asked at shares ≡ shares_left asked next shares
behind_share asked at next shares d order inside none is =
    ap (left_of asked at) (drop_more shares at.share d inside)
    ∙ ap (λ (ps : List EndPlace). ps ++ flat_map (runs asked) (drop (at.share + 1) shares)) none
    ∙ sym (from_first asked (at.share + 1) (drop (at.share + 1) shares) (All-drop AreByRank (at.share + 1) shares order))
    ∙ ap (λ (a : EndRuns). left_of asked a (drop a.share shares)) (sym is)
