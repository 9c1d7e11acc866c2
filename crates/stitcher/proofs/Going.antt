-- The whole search: one open run after the other is gone on from, until none is left.
use Rattle.std.proofs.Common.{◌≡◌, ℕ, ◌+◌, ◌<◌, ◌≤◌, Bool, true, false, ◌||◌, List, [], ◌∷◌, ◌++◌, map, length, Option, Some, All, Contains, IsTrue, ◌↔◌, MatchOption, sym, refl, ap, ◌∙◌, subst, arith, filter, flat_map, append_assoc, append-nil, length-append, IsPermutation, ◌⊎◌, inl, inr}
use Rattle.std.specs.List.{AllByRecursion, list_any}
use Rattle.std.proofs.lemmas.List.{map-append}
use Rattle.std.proofs.lemmas.List.Elements.{All-from_recursion, filter-append}
use Rattle.std.proofs.lemmas.List.Concat.{flat_map-append}
use Rattle.std.proofs.lemmas.List.Sorted.{IsPermutation-sym, Contains-permutation, length_permutation}
use Rattle.partial_path.specs.declared.config.Config.{Config}
use Rattle.partial_path.specs.declared.config.EdgeAt.{EdgeAt}
use Rattle.partial_path.specs.declared.config.Spot.{Spot}
use Rattle.partial_path.specs.declared.config.Spot.TheVariants.{At}
use Rattle.partial_path.specs.Limits.{max_runs}
use Rattle.partial_path.specs.Rules.{Rule}
use Rattle.partial_path.specs.Step.{start}
use Rattle.partial_path.specs.Runs.{run, IsApart}
use Rattle.partial_path.specs.Counted.{IsBoundedComplete, IsCrowded, HasLimit}
use Rattle.partial_path.specs.Sources.{IsSourceFile, graphs_of}
use Rattle.stitcher.specs.Found.{EdgePath}
use Rattle.stitcher.specs.declared.trail.Open.{Open}
use Rattle.stitcher.specs.declared.tally.Progress.{Progress}
use Rattle.stitcher.specs.declared.tally.Tally.{Tally}
use Rattle.stitcher.specs.declared.trail.Level.{Level}
use Rattle.stitcher.specs.Joins.{Asked, Joined, none_joined, next_start, is_bounded_complete, is_bounded_counted, is_past_bounds, joined_by, goes_on, offered_to, met, ahead}
use Rattle.stitcher.specs.Laws.{joined_edges, CutLaws}
use Rattle.stitcher.specs.Answers.{kept_edges, EndsThere}
use Rattle.stitcher.specs.Opens.{opened, opens_of, kept_run, kept_runs, joined_run, IsNoted, IsExtended, IsOverfull, levels_of, IsOpen, IsLast, AreAdded, IsEnded}
use Rattle.list_facts.specs.Apart.{Pairs}
use Rattle.list_facts.proofs.Each.{all-append, all-left}
use Rattle.list_facts.proofs.Pairs.{Pairs-append, Pairs-left, Pairs-before}
use Rattle.list_facts.specs.Members.{IsIn}
use Rattle.list_facts.proofs.Members.{IsIn-append_left, IsIn-append_right, IsIn-append_cases, IsIn-map, IsIn-map_from, IsIn-filter_from, IsIn-from_Contains, Contains-from_IsIn, at_member, each_member}
use Rattle.list_facts.proofs.Apart.{IsApart-append_left}
use Rattle.stitcher.proofs.Same.{AreSame, apart_of_many}
use Rattle.stitcher.proofs.Offered.{apart_offered}
use Rattle.stitcher.proofs.Meeting.{Stands, none_stands}
use Rattle.stitcher.proofs.Telling.{met_stands, met_some}
use Rattle.stitcher.proofs.UnderWay.{onward, AreFound, found_by, IsUnderWay, begins_under_way, goes_on_under_way, fewer_ahead}
use Rattle.stitcher.proofs.Ending.{AreAllMet, ended, complete_once, complete_exact, limit_exact, not_crowded, crowded}
use Rattle.stitcher.proofs.Tried.{noted_after}
use Rattle.stitcher.proofs.Opening.{open_kept, opens_kept, open_last, open_stands, open_goes}

-- the depths never fall towards the end
abbrev pub IsStacked : List Open → Type 0
IsStacked opens = Pairs (λ (x y : Open). x.depth ≤ y.depth) opens

stacked_front : (xs : List Open) (o : Open) → IsStacked (xs ++ o ∷ []) → IsStacked xs × AllByRecursion (λ (x : Open). x.depth ≤ o.depth) xs
stacked_front xs o h = (
  Pairs-left (λ (x y : Open). x.depth ≤ y.depth) xs (o ∷ []) h,
  Pairs-before (λ (x y : Open). x.depth ≤ y.depth) o xs [] h,
)

same_depths : (n : ℕ) (ys : List Open) → AllByRecursion (λ (y : Open). y.depth ≡ n) ys → IsStacked ys
same_depths n [] h = tt
same_depths n (y ∷ ys) h = (
  each_member (λ (x : Open). y.depth ≤ x.depth) ys
      (λ x g. let a : y.depth ≡ n = h.0 in let b : x.depth ≡ n = at_member (λ (z : Open). z.depth ≡ n) x ys h.1 g in omega arith),
  same_depths n ys h.1,
)

-- what was noted since nothing was known
pub record IsTallied (q : Asked) (done : List Joined) (t : Tally) : Type 0 where
  pub first : Tally
  pub none : first.complete.items ≡ []
  pub zero : first.counted ≡ 0
  pub unlimited : first.limit ≡ false
  pub noted : IsNoted q done first t

-- what was found so far, and what is still open
pub record IsGoing (q : Asked) (trail : List Level) (work : List Open) (t : Tally) : Type 0 where
  pub done : List Joined
  pub under : IsUnderWay q done (opens_of trail work)
  pub tallied : IsTallied q done t
  pub going : AllByRecursion (IsOpen q trail) work
  pub stacked : IsStacked work

-- a list in another order has the same members, each once
same_permuted : {X : Type 0} (xs ys : List X) → IsPermutation xs ys → AreSame ys xs
same_permuted xs ys p = record {
  there = λ x h. IsIn-from_Contains xs x (Contains-permutation ys xs x (IsPermutation-sym xs ys p) (Contains-from_IsIn ys x h));
  back = λ x h. IsIn-from_Contains ys x (Contains-permutation xs ys x p (Contains-from_IsIn xs x h));
}

apart_permuted : {X : Type 0} (xs ys : List X) → IsPermutation xs ys → IsApart xs → IsApart ys
apart_permuted xs ys p h =
    apart_of_many xs ys h (same_permuted xs ys p).back (let n = length_permutation xs ys p in omega arith)

-- the last of the open ones may be taken for the first
swapped_in : {X : Type 0} (x : X) (a b c : List X) → IsIn x (a ++ (b ++ c)) → IsIn x (a ++ (c ++ b))
swapped_in {X} x a b c h = from (IsIn-append_cases x a (b ++ c) h)
  where
    later : IsIn x b ⊎ IsIn x c → IsIn x (a ++ (c ++ b))
    later (inl g) = IsIn-append_right x a (c ++ b) (IsIn-append_right x c b g)
    later (inr g) = IsIn-append_right x a (c ++ b) (IsIn-append_left x c b g)

    from : IsIn x a ⊎ IsIn x (b ++ c) → IsIn x (a ++ (c ++ b))
    from (inl g) = IsIn-append_left x a (c ++ b) g
    from (inr g) = later (IsIn-append_cases x b c g)

same_length : {X : Type 0} (a b c : List X) → length (a ++ (c ++ b)) ≤ length (a ++ (b ++ c))
same_length a b c =
    let one = length-append a (c ++ b) in
    let two = length-append a (b ++ c) in
    let three = length-append c b in
    let four = length-append b c in
    omega arith

ahead_last : (q : Asked) (f : Joined → List Joined) (rest : List Joined) (j : Joined) → flat_map f (rest ++ j ∷ []) ≡ flat_map f rest ++ f j
ahead_last q f rest j = flat_map-append f rest (j ∷ []) ∙ ap (λ (xs : List Joined). flat_map f rest ++ xs) (append-nil (f j))

turned : (q : Asked) (done rest : List Joined) (j : Joined) → IsUnderWay q done (rest ++ j ∷ []) → IsUnderWay q done (j ∷ rest)
turned q done rest j w =
    let whole : done ++ flat_map (ahead q) (rest ++ j ∷ []) ≡ done ++ (flat_map (ahead q) rest ++ ahead q j) = ap (λ (xs : List Joined). done ++ xs) (ahead_last q (ahead q) rest j) in
    let apart = subst IsApart whole w.apart in
    let same = subst (λ (xs : List Joined). AreSame xs (met q)) whole w.same in record {
      apart = apart_of_many (done ++ (flat_map (ahead q) rest ++ ahead q j)) (done ++ (ahead q j ++ flat_map (ahead q) rest)) apart
          (λ x h. swapped_in x done (flat_map (ahead q) rest) (ahead q j) h) (same_length done (flat_map (ahead q) rest) (ahead q j));
      same = record {
        there = λ x h. same.there x (swapped_in x done (ahead q j) (flat_map (ahead q) rest) h);
        back = λ x h. swapped_in x done (flat_map (ahead q) rest) (ahead q j) (same.back x h);
      };
    }

-- one that is open is known to be so
pub open_of : (q : Asked) (trail : List Level) (rest : List Open) (o : Open) (t : Tally) → IsGoing q trail (rest ++ o ∷ []) t → IsOpen q trail o
open_of q trail rest o t g =
    at_member (IsOpen q trail) o (rest ++ o ∷ []) g.going (IsIn-append_right o rest (o ∷ []) (inl refl))

module _ (laws : CutLaws) (q : Asked) (sources : All IsSourceFile q.files) (begins : start (graphs_of q.files) q.node ≡ Some q.start) where
  are_found : (j : Joined) (paths : List (ℕ × Rule)) → goes_on q j ≡ true → IsPermutation (offered_to q j) paths → AreFound q j (flat_map (joined_by q j) paths)
  are_found j paths goes perm =
      found_by q j paths goes
      (apart_permuted (offered_to q j) paths perm (apart_offered q.files (next_start q j) j.at.stacks.symbols sources))
      (same_permuted (offered_to q j) paths perm)

  opens_last : (trail : List Level) (rest : List Open) (o : Open) → opens_of trail (rest ++ o ∷ []) ≡ opens_of trail rest ++ opened trail o ∷ []
  opens_last trail rest o = map-append (opened trail) rest (o ∷ [])

  -- the open ones before one of them is gone on from
  under_of : (trail : List Level) (rest : List Open) (o : Open) (t : Tally) → (g : IsGoing q trail (rest ++ o ∷ []) t) → IsUnderWay q g.done (opened trail o ∷ opens_of trail rest)
  under_of trail rest o t g =
      turned q g.done (opens_of trail rest) (opened trail o) (subst (IsUnderWay q g.done) (opens_last trail rest o) g.under)

  going_there : (trail : List Level) (o : Open) (old new : Progress) → IsGoing q trail (old.work.items ++ o ∷ []) old.tally → IsExtended q (levels_of trail o) (opened trail o) old new → AreAdded q (levels_of trail o) old new → IsGoing q (levels_of trail o) new.work.items new.tally
  going_there trail o old new g e a =
      let rest = old.work.items in
      let j = opened trail o in
      let is = open_of q trail rest o old.tally g in
      let found = flat_map (joined_by q j) e.0 in
      let front = stacked_front rest o g.stacked in
      let kept : opens_of (levels_of trail o) rest ≡ opens_of trail rest = opens_kept trail o rest front.1 is.depth in
      let opens : opens_of (levels_of trail o) new.work.items ≡ opens_of trail rest ++ filter (goes_on q) found =
      e.2.opens ∙ ap (λ (xs : List Joined). xs ++ filter (goes_on q) found) kept in record {
        done = g.done ++ found;
        under = subst (IsUnderWay q (g.done ++ found)) (sym opens)
            (goes_on_under_way laws q sources begins g.done (opens_of trail rest) found j (under_of trail rest o old.tally g) (open_stands q trail o is) (open_goes q trail o is)
            (are_found j e.0 (open_goes q trail o is) e.1));
        tallied = record {
          first = g.tallied.first;
          none = g.tallied.none;
          zero = g.tallied.zero;
          unlimited = g.tallied.unlimited;
          noted = noted_after q g.done found g.tallied.first old.tally new.tally g.tallied.noted e.2.noted;
        };
        going = subst (AllByRecursion (IsOpen q (levels_of trail o))) (sym a.1)
            (all-append (IsOpen q (levels_of trail o)) rest a.0
            (each_member (IsOpen q (levels_of trail o)) rest
            (λ x h. open_kept q trail o x (at_member (IsOpen q trail) x rest (all-left (IsOpen q trail) rest (o ∷ []) g.going) h) (at_member (λ (y : Open). y.depth ≤ o.depth) x rest front.1 h) is.depth))
            (each_member (IsOpen q (levels_of trail o)) a.0 (λ x h. open_last q (levels_of trail o) x (at_member (IsLast q (levels_of trail o)) x a.0 a.2 h))));
        stacked = subst IsStacked (sym a.1)
            (Pairs-append (λ (x y : Open). x.depth ≤ y.depth) rest a.0 front.0
            (same_depths (length (levels_of trail o)) a.0 (each_member (λ (y : Open). y.depth ≡ length (levels_of trail o)) a.0 (λ y h. (at_member (IsLast q (levels_of trail o)) y a.0 a.2 h).depth)))
            (λ x y hx hy.
            let low : x.depth ≤ o.depth = at_member (λ (z : Open). z.depth ≤ o.depth) x rest front.1 hx in
            let up : x.depth ≤ length (levels_of trail o) = (open_kept q trail o x (at_member (IsOpen q trail) x rest (all-left (IsOpen q trail) rest (o ∷ []) g.going) hx) low is.depth).depth in
            let there : y.depth ≡ length (levels_of trail o) = (at_member (IsLast q (levels_of trail o)) y a.0 a.2 hy).depth in
            omega arith));
      }

  -- one of the open ones is gone on from
  pub going_on : (trail after : List Level) (o : Open) (old new : Progress) → IsGoing q trail (old.work.items ++ o ∷ []) old.tally → after ≡ levels_of trail o → IsExtended q after (opened trail o) old new → AreAdded q after old new → IsGoing q after new.work.items new.tally
  going_on trail after o old new g same e a =
      subst (λ (ls : List Level). IsGoing q ls new.work.items new.tally) (sym same)
      (going_there trail o old new g
      (subst (λ (ls : List Level). IsExtended q ls (opened trail o) old new) same e)
      (subst (λ (ls : List Level). AreAdded q ls old new) same a))

  -- then fewer are ahead
  pub fewer : (trail after : List Level) (o : Open) (old new : Progress) → IsGoing q trail (old.work.items ++ o ∷ []) old.tally → after ≡ levels_of trail o → IsExtended q after (opened trail o) old new → length (flat_map (onward q) (opens_of after new.work.items)) < length (flat_map (onward q) (opens_of trail (old.work.items ++ o ∷ [])))
  fewer trail after o old new g same e =
      let rest = old.work.items in
      let j = opened trail o in
      let is = open_of q trail rest o old.tally g in
      let found = flat_map (joined_by q j) e.0 in
      let front = stacked_front rest o g.stacked in
      let kept : opens_of after rest ≡ opens_of trail rest = ap (λ (ls : List Level). opens_of ls rest) same ∙ opens_kept trail o rest front.1 is.depth in
      let opens : opens_of after new.work.items ≡ opens_of trail rest ++ filter (goes_on q) found =
      e.2.opens ∙ ap (λ (xs : List Joined). xs ++ filter (goes_on q) found) kept in
      let now = ap (λ (xs : List Joined). length (flat_map (onward q) xs)) opens in
      let less = fewer_ahead laws q sources begins (opens_of trail rest) found j (open_stands q trail o is) (open_goes q trail o is) (are_found j e.0 (open_goes q trail o is) e.1) in
      let before = ap length (ap (flat_map (onward q)) (opens_last trail rest o) ∙ ahead_last q (onward q) (opens_of trail rest) j) in
      let one = length-append (flat_map (onward q) (opens_of trail rest)) (onward q j) in
      let two = length-append (onward q j) (flat_map (onward q) (opens_of trail rest)) in
      omega arith

  -- the first paths were joined to the reference
  pub going_first : (old new : Progress) → old.work.items ≡ [] → old.tally.complete.items ≡ [] → old.tally.counted ≡ 0 → old.tally.limit ≡ false → IsExtended q [] (none_joined q) old new → AreAdded q [] old new → IsGoing q [] new.work.items new.tally
  going_first old new none first zero unlimited e a =
      let found = flat_map (joined_by q (none_joined q)) e.0 in
      let opens : opens_of [] new.work.items ≡ filter (goes_on q) found =
      e.2.opens ∙ ap (λ (ws : List Open). opens_of [] ws ++ filter (goes_on q) found) none in
      let added : new.work.items ≡ a.0 = a.1 ∙ ap (λ (ws : List Open). ws ++ a.0) none in record {
        done = found;
        under = subst (IsUnderWay q found) (sym opens)
            (goes_on_under_way laws q sources begins [] [] found (none_joined q) (begins_under_way laws q sources begins) (none_stands q) refl (are_found (none_joined q) e.0 refl e.1));
        tallied = record { first = old.tally; none = first; zero = zero; unlimited = unlimited; noted = e.2.noted };
        going = subst (AllByRecursion (IsOpen q [])) (sym added)
            (each_member (IsOpen q []) a.0 (λ x h. open_last q [] x (at_member (IsLast q []) x a.0 a.2 h)));
        stacked = subst IsStacked (sym added)
            (same_depths 0 a.0 (each_member (λ (y : Open). y.depth ≡ 0) a.0 (λ y h. (at_member (IsLast q []) y a.0 a.2 h).depth)));
      }

  -- of what is found by going on from there a part alone is too much
  too_many_there : (done rest : List Joined) (j : Joined) (counted : ℕ) → IsUnderWay q done (j ∷ rest) → Stands q j → goes_on q j ≡ true → counted ≡ length (filter (is_bounded_counted q) done) → IsOverfull q j counted → IsCrowded q.bounds (graphs_of q.files) q.start
  too_many_there done rest j counted w s goes count h =
      let a = flat_map (joined_by q j) h.part in
      let b = flat_map (joined_by q j) h.rest in
      let whole : flat_map (joined_by q j) (h.part ++ h.rest) ≡ a ++ b = flat_map-append (joined_by q j) h.part h.rest in
      let v = goes_on_under_way laws q sources begins done rest (flat_map (joined_by q j) (h.part ++ h.rest)) j w s goes (are_found j (h.part ++ h.rest) goes h.offered) in
      let opens = rest ++ filter (goes_on q) (flat_map (joined_by q j) (h.part ++ h.rest)) in
      let split : (done ++ flat_map (joined_by q j) (h.part ++ h.rest)) ++ flat_map (ahead q) opens ≡ (done ++ a) ++ (b ++ flat_map (ahead q) opens) =
      ap (λ (xs : List Joined). (done ++ xs) ++ flat_map (ahead q) opens) whole
      ∙ (ap (λ (xs : List Joined). xs ++ flat_map (ahead q) opens) (sym (append_assoc done a b)) ∙ append_assoc (done ++ a) b (flat_map (ahead q) opens)) in
      let apart = IsApart-append_left (done ++ a) (b ++ flat_map (ahead q) opens) (subst IsApart split v.apart) in
      let same = subst (λ (xs : List Joined). AreSame xs (met q)) split v.same in
      let sum : length (filter (is_bounded_counted q) (done ++ a)) ≡ length (filter (is_bounded_counted q) done) + length (filter (is_bounded_counted q) a) =
      ap length (filter-append (is_bounded_counted q) done a) ∙ length-append (filter (is_bounded_counted q) done) (filter (is_bounded_counted q) a) in
      let many : max_runs < counted + length (filter (is_bounded_counted q) a) = h.many in
      crowded laws q sources begins (done ++ a) apart
      (λ x g. same.there x (IsIn-append_left x (done ++ a) (b ++ flat_map (ahead q) opens) g)) (omega arith)

  counted_of : (done : List Joined) (t : Tally) → IsTallied q done t → t.counted ≡ length (filter (is_bounded_counted q) done)
  counted_of done t h =
      let a : t.counted ≡ h.first.counted + length (filter (is_bounded_counted q) done) = h.noted.counted in
      let b : h.first.counted ≡ 0 = h.zero in
      omega arith

  pub too_many : (trail : List Level) (rest : List Open) (o : Open) (t : Tally) → IsGoing q trail (rest ++ o ∷ []) t → IsOverfull q (opened trail o) t.counted → IsCrowded q.bounds (graphs_of q.files) q.start
  too_many trail rest o t g h =
      let is = open_of q trail rest o t g in
      too_many_there g.done (opens_of trail rest) (opened trail o) t.counted (under_of trail rest o t g) (open_stands q trail o is) (open_goes q trail o is) (counted_of g.done t g.tallied) h

  pub too_many_first : (t : Tally) → t.counted ≡ 0 → IsOverfull q (none_joined q) t.counted → IsCrowded q.bounds (graphs_of q.files) q.start
  too_many_first t zero h =
      too_many_there [] [] (none_joined q) t.counted (begins_under_way laws q sources begins) (none_stands q) refl zero h

  -- the kept runs, once none is open
  edges_kept : (paths : List EdgePath) → map (λ (r : List EdgeAt × Spot). r.0) (kept_runs paths) ≡ kept_edges paths
  edges_kept [] = refl
  edges_kept (p ∷ paths) = ap (λ es. p.edges ∷ es) (edges_kept paths)

  edges_joined : (xs : List Joined) → map (λ (r : List EdgeAt × Spot). r.0) (map joined_run xs) ≡ map joined_edges xs
  edges_joined [] = refl
  edges_joined (x ∷ xs) = ap (λ es. joined_edges x ∷ es) (edges_joined xs)

  ends_at : (p : EdgePath) (x : Joined) (o : Option Config) → o ≡ Some x.at → x.at.spot ≡ At p.end → MatchOption o ⊥ (λ (end : Config). end.spot ≡ At p.end)
  ends_at p x o e s = subst (λ (m : Option Config). MatchOption m ⊥ (λ (end : Config). end.spot ≡ At p.end)) (sym e) s

  end_there : (done : List Joined) → AreAllMet laws q sources begins done → (p : EdgePath) → IsIn (kept_run p) (map joined_run (filter (is_bounded_complete q) done)) → EndsThere (graphs_of q.files) q.start p
  end_there done all p h =
      let m = IsIn-map_from joined_run (kept_run p) (filter (is_bounded_complete q) done) h in
      let there = all.same.there m.0 (IsIn-filter_from (is_bounded_complete q) m.0 done m.1).0 in
      let s = met_stands laws q sources begins m.0 there in
      let r = laws.runs q.files q.node q.start m.0.at m.0.paths sources begins (met_some laws q sources begins m.0 there) s.leads in
      ends_at p m.0 (run (graphs_of q.files) q.start p.edges)
      (ap (λ (x : List EdgeAt × Spot). run (graphs_of q.files) q.start x.0) (sym m.2) ∙ r.runs)
      (ap (λ (x : List EdgeAt × Spot). x.1) m.2)

  pub going_ends : (trail : List Level) (work : List Open) (t : Tally) → work ≡ [] → t.counted ≤ max_runs → IsGoing q trail work t → IsEnded q t
  going_ends trail work t none few g =
      let all = ended laws q sources begins g.done (subst (λ (ws : List Open). IsUnderWay q g.done (opens_of trail ws)) none g.under) in
      let runs : kept_runs t.complete.items ≡ map joined_run (filter (is_bounded_complete q) g.done) =
      g.tallied.noted.complete ∙ ap (λ (ps : List EdgePath). kept_runs ps ++ map joined_run (filter (is_bounded_complete q) g.done)) g.tallied.none in
      let edges : kept_edges t.complete.items ≡ map joined_edges (filter (is_bounded_complete q) g.done) =
      sym (edges_kept t.complete.items) ∙ (ap (map (λ (r : List EdgeAt × Spot). r.0)) runs ∙ edges_joined (filter (is_bounded_complete q) g.done)) in
      let limit : t.limit ≡ list_any (is_past_bounds q) g.done =
      g.tallied.noted.limit ∙ ap (λ (b : Bool). b || list_any (is_past_bounds q) g.done) g.tallied.unlimited in
      let count = counted_of g.done t g.tallied in record {
        runs = record {
          once = subst IsApart (sym edges) (complete_once laws q sources begins g.done all);
          exact = λ es. subst (λ (xs : List (List EdgeAt)). Contains xs es ↔ IsBoundedComplete q.bounds (graphs_of q.files) q.start es) (sym edges) (complete_exact laws q sources begins g.done all es);
          ends = All-from_recursion (EndsThere (graphs_of q.files) q.start) t.complete.items
              (each_member (EndsThere (graphs_of q.files) q.start) t.complete.items
              (λ p h. end_there g.done all p (subst (IsIn (kept_run p)) runs (IsIn-map kept_run p t.complete.items h))));
        };
        limit = subst (λ (b : Bool). IsTrue b ↔ HasLimit q.bounds (graphs_of q.files) q.start) (sym limit) (limit_exact laws q sources begins g.done all);
        not_crowded = not_crowded laws q sources begins g.done all (omega (arith, few, count));
      }
