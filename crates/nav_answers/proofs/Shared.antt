-- References that are dealt out to threads, and what is found of them, put together again.
use Rattle.std.proofs.Common.{◌≡◌, refl, sym, ◌∙◌, ap, subst, ℕ, zero, suc, ◌+◌, ◌-◌, ◌*◌, min, suc-mul, ◌/◌, ◌%◌, ◌≤◌, ◌<◌, List, [], ◌∷◌, ◌++◌, length, Bool, true, false, Contains, ◌||◌, ◌&&◌, Some, slice_get, get_or, inl, inr, ◌⊎◌, ◌↔◌, arith, Result, append_assoc, length-append}
use Rattle.std.proofs.Math.Nat.{mod-lt}
use Rattle.std.proofs.lemmas.Nat.{div-mul-add}
use Rattle.std.proofs.lemmas.Bool.{and_parts, cases_lt}
use Rattle.std.proofs.lemmas.List.{get_or-append_right}
use Rattle.std.proofs.lemmas.Option.{none-some, same_Some, slice_get-get_or}
use Rattle.graph_nodes.specs.Graph.{Graph}
use Rattle.list_facts.specs.Members.{IsIn}
use Rattle.partial_path.specs.declared.bounds.Bounds.{Bounds}
use Rattle.stacks_vars.specs.declared.scopes.NodeAt.{NodeAt}
use Rattle.stitcher.specs.declared.found.StitchFault.{StitchFault}
use Rattle.whole_search.specs.declared.found.Hit.{Hit}
use Rattle.nav_answers.specs.declared.links.Link.{Link}
use Rattle.nav_answers.specs.Replies.{hit_of}
use Rattle.nav_answers.specs.Links.{Table, links_of}
use Rattle.nav_answers.specs.declared.links.Links.{Links}
use Rattle.nav_answers.specs.Asking.{AddsLinks, AreFound, AreLinks, AreLinksOf, AreTabled, Holds, IsHeld, IsShareOf, IsInShares, run_of, share_of}
use Rattle.nav_answers.proofs.Referred.{none_linked, same_asked, one_linked, both_linked, less_held, kept_held}

-- what stands in a list
there_in : (all : List NodeAt) (k : ℕ) (at : NodeAt) → slice_get all k ≡ Some at → IsIn at all
there_in [] k at e = absurd (none-some at e)
there_in (a ∷ all) zero at e = inl (sym (same_Some a at e))
there_in (a ∷ all) (suc k) at e = inr (there_in all k at e)

-- the reference at a place of the list is one of them
pub job_among : (all : List NodeAt) (job : ℕ) (d : NodeAt) → job < length all → IsIn (get_or all job d) all
job_among all job d inside = there_in all job (get_or all job d) (slice_get-get_or all job d inside)

-- which does not rest on what would stand past the end
pub same_place : (all : List NodeAt) (job : ℕ) (d e : NodeAt) → job < length all → get_or all job d ≡ get_or all job e
same_place all job d e inside =
    same_Some (get_or all job d) (get_or all job e) (sym (slice_get-get_or all job d inside) ∙ slice_get-get_or all job e inside)

in_there : (all : List NodeAt) (at : NodeAt) → IsIn at all → (k : ℕ) × (k < length all) × (slice_get all k ≡ Some at)
in_there [] at m = absurd m
in_there (a ∷ all) at (inl same) = (0, omega arith, ap Some (sym same))
in_there (a ∷ all) at (inr m) = let r = in_there all at m in let inside = r.1 in (suc r.0, omega arith, r.2)

-- where there is more, the run of that number begins
pub run_begins : (turn len from count : ℕ) → (from ≡ turn * len) ⊎ (count ≤ from) → from < count → from ≡ turn * len
run_begins turn len from count (inl begun) low = begun
run_begins turn len from count (inr over) low = absurd (omega arith)

-- behind it the next one begins, or there is no more
pub run_follows : (turn len from count least : ℕ) → from ≡ turn * len → least ≡ min len (count - from) → from < count
    → (from + least ≡ (turn + 1) * len) ⊎ (count ≤ from + least)
run_follows turn len from count least begun is low = by (cases_lt least len)
  where
    by : (least < len) ⊎ (len ≤ least) → (from + least ≡ (turn + 1) * len) ⊎ (count ≤ from + least)
    by (inl less) = inr (omega (arith, is, low, less))
    by (inr all) =
        let next : turn + 1 ≡ suc turn = omega arith in
        let whole : (turn + 1) * len ≡ turn * len + len = ap (λ n. n * len) next ∙ suc-mul turn len in
        inl (omega (arith, whole, begun, is, all))

-- the places of a run are all in one share
pub run_share : (all : List NodeAt) (step turn run from k : ℕ) → run ≡ run_of (length all) step → from ≡ turn * run → from ≤ k → k < from + run → share_of all step k ≡ turn % step
run_share all step turn run from k named is low high =
    let there : k ≡ turn * run + (k - from) = omega (arith, is, low) in
    let whole : k / run ≡ turn = ap (λ n. n / run) there ∙ div-mul-add turn run (k - from) (omega (arith, low, high)) in
    subst (λ r. k / r % step ≡ turn % step) named (ap (λ t. t % step) whole)

module _ (all : List NodeAt) (step first : ℕ) where
  no_place : (at : NodeAt) → IsShareOf all step first 0 at → ⊥
  no_place at h = let low = h.1 in absurd (omega arith)

  -- more places, which are other shares'
  run_passed : (from end : ℕ) → from ≤ end → ((k : ℕ) → from ≤ k → k < end → share_of all step k ≡ first → ⊥)
      → (at : NodeAt) → IsShareOf all step first from at ↔ IsShareOf all step first end at
  run_passed from end order other at = (
    λ h. let low = h.1 in (h.0, omega arith, h.2, h.3),
    λ h. back h.0 h.1 h.2 h.3 (cases_lt h.0 from),
  )
    where
      back : (k : ℕ) → k < end → share_of all step k ≡ first → slice_get all k ≡ Some at → (k < from) ⊎ (from ≤ k) → IsShareOf all step first from at
      back k low mine e (inl h) = (k, h, mine, e)
      back k low mine e (inr h) = absurd (other k h low mine)

  -- one that is this share's
  place_added : (job : ℕ) (reference : NodeAt) → share_of all step job ≡ first → slice_get all job ≡ Some reference
      → (at : NodeAt) → (IsShareOf all step first job at ⊎ (at ≡ reference)) ↔ IsShareOf all step first (job + 1) at
  place_added job reference mine there at = (λ h. on h, λ h. back h.0 h.1 h.2 h.3 (cases_lt h.0 job))
    where
      on : IsShareOf all step first job at ⊎ (at ≡ reference) → IsShareOf all step first (job + 1) at
      on (inl h) = let low = h.1 in (h.0, omega arith, h.2, h.3)
      on (inr same) = (job, omega arith, mine, there ∙ ap Some (sym same))

      back : (k : ℕ) → k < job + 1 → share_of all step k ≡ first → slice_get all k ≡ Some at → (k < job) ⊎ (job ≤ k) → IsShareOf all step first job at ⊎ (at ≡ reference)
      back k low his e (inl h) = inl (k, h, his, e)
      back k low his e (inr h) =
          let same : k ≡ job = omega arith in
          inr (same_Some at reference (sym e ∙ ap (slice_get all) same ∙ there))

-- the share that comes next of those that are left is the one at its place
module _ (done rest next all : List (Result Links StitchFault)) (share : Result Links StitchFault) (is : rest ≡ share ∷ next) (whole : done ++ rest ≡ all) where
  split : all ≡ done ++ share ∷ next
  split = sym whole ∙ ap (λ xs. done ++ xs) is

  pub share_next : (place : ℕ) (d : Result Links StitchFault) → place ≡ length done → get_or all place d ≡ share
  share_next place d here =
      let none : place - length done ≡ 0 = omega (arith, here) in
      ap (λ xs. get_or xs place d) split ∙ get_or-append_right done (share ∷ next) (length done) place d refl (omega (arith, here)) ∙ ap (λ n. get_or (share ∷ next) n d) none

  pub share_inside : (place : ℕ) → place ≡ length done → place < length all
  share_inside place here = omega (arith, here, ap length split, length-append done (share ∷ next))

  pub shares_left : (done ++ share ∷ []) ++ next ≡ all
  shares_left = append_assoc done (share ∷ []) next ∙ sym split

  pub place_next : (place : ℕ) → place ≡ length done → place + 1 ≡ length (done ++ share ∷ [])
  place_next place here = omega (arith, here, length-append done (share ∷ []))

-- none is left
pub shares_passed : (done rest all : List (Result Links StitchFault)) (place : ℕ) → length rest ≡ 0 → done ++ rest ≡ all → place ≡ length done → length all ≤ place
shares_passed done rest all place none whole here = omega (arith, none, here, ap length whole, length-append done rest)

-- what both hold, each holds
held_first : (whole other : Bool) (Among : Type 0) → ((whole && other) ≡ true) ⊎ Among → (whole ≡ true) ⊎ Among
held_first whole other Among (inl t) = inl (and_parts whole other t).0
held_first whole other Among (inr m) = inr m

held_second : (whole other : Bool) (Among : Type 0) → ((whole && other) ≡ true) ⊎ Among → (other ≡ true) ⊎ Among
held_second whole other Among (inl t) = inl (and_parts whole other t).1
held_second whole other Among (inr m) = inr m

module _ (bounds : Bounds) (files : List Graph) (definitions : List Hit) (all : List NodeAt) (step : ℕ) where
  -- the same by other names
  so_linked : (IsAsked : NodeAt → Type 0) (whole : Bool) (links : List Link) (limit : Bool) (next : Links) → next.list.items ≡ links → next.limit ≡ limit → next.whole ≡ whole
      → AreLinks bounds files (IsHeld whole definitions) IsAsked links limit → AreFound bounds files definitions IsAsked next
  so_linked IsAsked whole links limit next e f w are =
      subst (λ (b : Bool). AreLinks bounds files (IsHeld b definitions) IsAsked next.list.items next.limit) (sym w)
      (subst (λ (xs : List Link). AreLinks bounds files (IsHeld whole definitions) IsAsked xs next.limit) (sym e)
      (subst (λ (b : Bool). AreLinks bounds files (IsHeld whole definitions) IsAsked links b) (sym f) are))

  -- what is found so far of a share
  pub share_begun : (first : ℕ) (next : Links) → next.list.items ≡ [] → next.limit ≡ false → next.whole ≡ true → AreFound bounds files definitions (IsShareOf all step first 0) next
  share_begun first next e f w =
      so_linked (IsShareOf all step first 0) true [] false next e f w (none_linked bounds files (IsHeld true definitions) (IsShareOf all step first 0) (no_place all step first))

  pub share_left : (first from end : ℕ) (links : Links) → from ≤ end → ((k : ℕ) → from ≤ k → k < end → share_of all step k ≡ first → ⊥)
      → AreFound bounds files definitions (IsShareOf all step first from) links → AreFound bounds files definitions (IsShareOf all step first end) links
  share_left first from end links order other are =
      same_asked bounds files (IsHeld links.whole definitions) (IsShareOf all step first from) (IsShareOf all step first end) links.list.items links.limit
      (run_passed all step first from end order other) are

  pub share_grown : (first job : ℕ) (d : NodeAt) (old new : Links) → share_of all step job ≡ first → job < length all
      → AreFound bounds files definitions (IsShareOf all step first job) old → AddsLinks bounds files (get_or all job d) old new
      → AreFound bounds files definitions (IsShareOf all step first (job + 1)) new
  share_grown first job d old new mine inside are adds =
      so_linked (IsShareOf all step first (job + 1)) old.whole (old.list.items ++ links_of (hit_of (get_or all job d)) adds.rows) (old.limit || adds.flag) new adds.list_is adds.limit_is adds.whole_is
      (same_asked bounds files (IsHeld old.whole definitions) (λ (at : NodeAt). IsShareOf all step first job at ⊎ (at ≡ get_or all job d)) (IsShareOf all step first (job + 1))
      (old.list.items ++ links_of (hit_of (get_or all job d)) adds.rows) (old.limit || adds.flag)
      (place_added all step first job (get_or all job d) mine (slice_get-get_or all job d inside))
      (both_linked bounds files (IsHeld old.whole definitions) (IsShareOf all step first job) (λ (at : NodeAt). at ≡ get_or all job d) old.list.items (links_of (hit_of (get_or all job d)) adds.rows) old.limit adds.flag are
      (one_linked bounds files (IsHeld old.whole definitions) (get_or all job d) adds.rows adds.flag adds.found)))

  pub share_held : (first job : ℕ) (old new : Links) → Holds definitions old new → AreFound bounds files definitions (IsShareOf all step first job) old
      → AreFound bounds files definitions (IsShareOf all step first job) new
  share_held first job old new (inl same) are = subst (λ (links : Links). AreFound bounds files definitions (IsShareOf all step first job) links) (sym same) are
  share_held first job old new (inr goes) are =
      so_linked (IsShareOf all step first job) false new.list.items old.limit new refl goes.limit_is goes.whole_is
      (kept_held bounds files definitions (IsShareOf all step first job) old new goes are)

  pub share_ended : (first job : ℕ) (links : Links) → job ≡ length all → AreFound bounds files definitions (IsShareOf all step first job) links
      → AreFound bounds files definitions (IsShareOf all step first (length all)) links
  share_ended first job links over are = subst (λ n. AreFound bounds files definitions (IsShareOf all step first n) links) over are

  -- the same links in another order
  pub share_sorted : (first : ℕ) (links sorted : Links) → ((link : Link) → Contains sorted.list.items link ↔ Contains links.list.items link) → sorted.limit ≡ links.limit
      → sorted.whole ≡ links.whole → AreFound bounds files definitions (IsShareOf all step first (length all)) links → AreFound bounds files definitions (IsShareOf all step first (length all)) sorted
  share_sorted first links sorted exact f w are =
      so_linked (IsShareOf all step first (length all)) links.whole sorted.list.items links.limit sorted refl f w (record {
        sound = λ link m. are.sound link ((exact link).0 m);
        all = λ link held asked is. (exact link).1 (are.all link held asked is);
        limit_is = are.limit_is;
        few = are.few;
      })

  -- the same of links in several lists
  so_tabled : (IsAsked : NodeAt → Type 0) (whole : Bool) (links : List Link) (limit : Bool) (next : Table) → next.list ≡ links → next.limit ≡ limit → next.whole ≡ whole
      → AreLinks bounds files (IsHeld whole definitions) IsAsked links limit → AreTabled bounds files definitions IsAsked next
  so_tabled IsAsked whole links limit next e f w are =
      subst (λ (b : Bool). AreLinks bounds files (IsHeld b definitions) IsAsked next.list next.limit) (sym w)
      (subst (λ (xs : List Link). AreLinks bounds files (IsHeld whole definitions) IsAsked xs next.limit) (sym e)
      (subst (λ (b : Bool). AreLinks bounds files (IsHeld whole definitions) IsAsked links b) (sym f) are))

  -- what is found in so many shares
  pub shares_begun : (next : Table) → next.list ≡ [] → next.limit ≡ false → next.whole ≡ true → AreTabled bounds files definitions (IsInShares all step 0) next
  shares_begun next e f w =
      so_tabled (IsInShares all step 0) true [] false next e f w (none_linked bounds files (IsHeld true definitions) (IsInShares all step 0) (λ at h. let low = h.2 in absurd (omega arith)))

  pub shares_added : (count : ℕ) (old : Table) (more : Links) (new : Table) → AreTabled bounds files definitions (IsInShares all step count) old
      → AreFound bounds files definitions (IsShareOf all step count (length all)) more → new.list ≡ old.list ++ more.list.items → new.limit ≡ (old.limit || more.limit)
      → new.whole ≡ (old.whole && more.whole) → AreTabled bounds files definitions (IsInShares all step (count + 1)) new
  shares_added count old more new are others e f w =
      so_tabled (IsInShares all step (count + 1)) (old.whole && more.whole) (old.list ++ more.list.items) (old.limit || more.limit) new e f w
      (same_asked bounds files (IsHeld (old.whole && more.whole) definitions) (λ (at : NodeAt). IsInShares all step count at ⊎ IsShareOf all step count (length all) at) (IsInShares all step (count + 1))
      (old.list ++ more.list.items) (old.limit || more.limit)
      (λ at. (λ h. on at h, λ h. back at h.0 h.1 h.2 h.3 (cases_lt (share_of all step h.0) count)))
      (both_linked bounds files (IsHeld (old.whole && more.whole) definitions) (IsInShares all step count) (IsShareOf all step count (length all)) old.list more.list.items old.limit more.limit
      (less_held bounds files (IsHeld old.whole definitions) (IsHeld (old.whole && more.whole) definitions) (IsInShares all step count) old.list old.limit
      (λ d t. held_first old.whole more.whole (IsIn d definitions) t) are)
      (less_held bounds files (IsHeld more.whole definitions) (IsHeld (old.whole && more.whole) definitions) (IsShareOf all step count (length all)) more.list.items more.limit
      (λ d t. held_second old.whole more.whole (IsIn d definitions) t) others)))
    where
      on : (at : NodeAt) → IsInShares all step count at ⊎ IsShareOf all step count (length all) at → IsInShares all step (count + 1) at
      on at (inl h) = let low = h.2 in (h.0, h.1, omega arith, h.3)
      on at (inr h) = let same = h.2 in (h.0, h.1, omega arith, h.3)

      back : (at : NodeAt) (k : ℕ) → k < length all → share_of all step k < count + 1 → slice_get all k ≡ Some at → (share_of all step k < count) ⊎ (count ≤ share_of all step k)
          → IsInShares all step count at ⊎ IsShareOf all step count (length all) at
      back at k inside low e (inl h) = inl (k, inside, h, e)
      back at k inside low e (inr h) = let same : share_of all step k ≡ count = omega arith in inr (k, inside, same, e)

  pub shares_ended : (count : ℕ) (links : Table) → 0 < step → step ≤ count → AreTabled bounds files definitions (IsInShares all step count) links
      → AreLinksOf bounds files definitions all links
  shares_ended count links some over are =
      same_asked bounds files (IsHeld links.whole definitions) (IsInShares all step count) (λ (at : NodeAt). IsIn at all) links.list links.limit
      (λ at. (
        λ h. there_in all h.0 at h.3,
        λ m. let r = in_there all at m in let low : share_of all step r.0 < step = mod-lt (r.0 / run_of (length all) step) some in (r.0, r.1, omega arith, r.2),
      ))
      are
