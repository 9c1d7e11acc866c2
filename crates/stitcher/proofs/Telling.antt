-- What the lists of paths that are met tell of the runs from the reference.
use Rattle.std.proofs.Common.{◌≡◌, ◌≢◌, ℕ, ◌+◌, ◌<◌, ◌≤◌, Bool, true, false, not, List, [], ◌∷◌, map, length, Option, Some, None, IsSome, IsSomeAnd, IsTrue, Contains, All, Decides, sym, refl, ◌∙◌, subst, arith, filter, ◌⊎◌, inl, inr}
use Rattle.std.proofs.lemmas.List.{length-map}
use Rattle.std.proofs.lemmas.Bool.{false≢true, and_from, and_parts, or_cases, or_left, or_right, false_from_ne_true, both_ways, not-true, not_from_false}
use Rattle.std.proofs.lemmas.Bool.Decides.{Decides-and, Decides-like}
use Rattle.partial_path.specs.declared.config.Config.{Config}
use Rattle.partial_path.specs.declared.config.EdgeAt.{EdgeAt}
use Rattle.partial_path.specs.Limits.{max_runs}
use Rattle.partial_path.specs.Spots.{is_definition_spot}
use Rattle.partial_path.specs.Step.{start}
use Rattle.partial_path.specs.Runs.{run, IsApart, IsBounded, IsAtDefinition}
use Rattle.partial_path.specs.Counted.{IsComplete, IsCounted, IsBoundedCounted, IsBoundedComplete, IsCrowded, HasLimit}
use Rattle.partial_path.specs.Sources.{IsSourceFile, graphs_of}
use Rattle.partial_path.specs.Laws.{IsToldByLandings}
use Rattle.stitcher.specs.Joins.{Asked, Joined, joined, none_joined, is_none, is_at_cut, is_at_result, is_bounded, met, lands, is_bounded_complete, is_bounded_counted, is_past_bounds, complete_met, counted_met, meets_past}
use Rattle.stitcher.specs.Laws.{joined_edges, CutLaws, IsToldByMet, MetPathsTell}
use Rattle.list_facts.specs.Members.{IsIn}
use Rattle.list_facts.proofs.Members.{IsIn-map, IsIn-map_from, IsIn-filter, IsIn-filter_from, IsIn-from_Contains, Contains-from_IsIn, at_member, each_member, passing_member, list_any-from_member}
use Rattle.list_facts.proofs.Apart.{IsApart-filter, all_differ, absent}
use Rattle.list_facts.proofs.Sums.{length-apart_le}
use Rattle.stitcher.proofs.Leading.{nonempty_with}
use Rattle.stitcher.proofs.Meeting.{Stands, none_stands, meets_sound, meets_begin, apart_meets}
use Rattle.stitcher.proofs.Reached.{bounded_decides, in_met, bounded_fronts, stop, same_joined}

-- images of elements that are apart are apart where no two of the elements have one image
pub apart_images : {X Y : Type 0} (f : X → Y) (xs : List X) → ((a b : X) → IsIn a xs → IsIn b xs → f a ≡ f b → a ≡ b) → IsApart xs → IsApart (map f xs)
apart_images f [] same h = tt
apart_images f (x ∷ xs) same h = (
  all_differ (f x) (map f xs)
      (λ g. let r = IsIn-map_from f (f x) xs g in
      absent x xs h.0 (subst (λ z. IsIn z xs) (same r.0 x (inr r.1) (inl refl) r.2) r.1)),
  apart_images f xs (λ a b ga gb. same a b (inr ga) (inr gb)) h.1,
)

is_none_decides : {X : Type 0} (xs : List X) → Decides (is_none xs) (xs ≡ [])
is_none_decides [] = (λ _. refl, λ _. refl)
is_none_decides (x ∷ xs) = (λ t. absurd (false≢true t), λ e. absurd (some e))
  where
    some : x ∷ xs ≡ [] → ⊥
    some e = cc

some_of : {X : Type 0} (o : Option X) → IsSome o → (x : X) × (o ≡ Some x)
some_of None h = absurd (false≢true h)
some_of (Some x) h = (x, refl)

some_ends : (q : Asked) (o : Option Config) → IsSomeAnd o (IsAtDefinition (graphs_of q.files)) → IsSome o
some_ends q None h = absurd h
some_ends q (Some x) h = refl

module _ (laws : CutLaws) (q : Asked) (sources : All IsSourceFile q.files) (begins : start (graphs_of q.files) q.node ≡ Some q.start) where
  -- the test whether a configuration is a result decides it
  result_decides : (at : Config) → Decides (is_at_result q at) (IsAtDefinition (graphs_of q.files) at)
  result_decides at =
      Decides-like (is_at_result q at) (λ h. record { definition = h.0; resolved = h.1 }) (λ h. (h.definition, h.resolved))
      (Decides-and (is_definition_spot (graphs_of q.files) at.spot) (is_none at.stacks.symbols) ((λ t. t), (λ t. t)) (is_none_decides at.stacks.symbols))

  -- what is met stands, and isn't empty
  pub met_stands : (x : Joined) → IsIn x (met q) → Stands q x
  met_stands x h = meets_sound (q.bounds.edges + 1) q (none_joined q) x (none_stands q) h

  pub met_some : (x : Joined) → IsIn x (met q) → x.paths ≢ []
  met_some x h =
      let m = meets_begin (q.bounds.edges + 1) q (none_joined q) x h in
      λ e. nonempty_with [] m.0 m.1 (m.2 ∙ e)

  told : (x : Joined) → Stands q x → x.paths ≢ [] → IsToldByLandings q.files q.node q.start x.at x.paths
  told x s some = laws.tell q.files q.node q.start x.at x.paths sources begins some s.leads

  lands_tells : (x : Joined) → lands q x ≡ true → IsTrue (is_at_cut q x.at) ⊎ IsAtDefinition (graphs_of q.files) x.at
  lands_tells x t = by (or_cases (is_at_cut q x.at) (is_at_result q x.at) t)
    where
      by : (is_at_cut q x.at ≡ true) ⊎ (is_at_result q x.at ≡ true) → IsTrue (is_at_cut q x.at) ⊎ IsAtDefinition (graphs_of q.files) x.at
      by (inl h) = inl h
      by (inr h) = inr ((result_decides x.at).0 h)

  lands_told : (x : Joined) → IsTrue (is_at_cut q x.at) ⊎ IsAtDefinition (graphs_of q.files) x.at → lands q x ≡ true
  lands_told x (inl h) = or_left (is_at_cut q x.at) (is_at_result q x.at) h
  lands_told x (inr h) = or_right (is_at_cut q x.at) (is_at_result q x.at) ((result_decides x.at).1 h)

  counted_of : (x : Joined) → Stands q x → x.paths ≢ [] → lands q x ≡ true → IsCounted (graphs_of q.files) q.start (joined_edges x)
  counted_of x s some t = (told x s some).counted.1 (s.straight, lands_tells x t)

  -- the paths of a counted run
  record IsCutInto (es : List EdgeAt) : Type 0 where
    x : Joined
    stands : Stands q x
    some : x.paths ≢ []
    edges : joined_edges x ≡ es

  paths_of : (es : List EdgeAt) → IsCounted (graphs_of q.files) q.start es → IsCutInto es
  paths_of es counted =
      let end = some_of (run (graphs_of q.files) q.start es) counted.runs in
      let c = laws.cut q.files q.node q.start end.0 es sources begins counted end.1 in
      let there = subst (IsCounted (graphs_of q.files) q.start) (sym c.1.edges) counted in
      let t = laws.tell q.files q.node q.start end.0 c.0 sources begins c.1.nonempty c.1.leads in record {
        x = joined c.0 end.0;
        stands = record { leads = c.1.leads; straight = (t.counted.0 there).0 };
        some = c.1.nonempty;
        edges = c.1.edges;
      }

  -- a bounded counted run is met
  counted_met_there : (es : List EdgeAt) (p : IsCutInto es) → IsBounded q.bounds (graphs_of q.files) q.start es → IsIn p.x (met q)
  counted_met_there es p bounded =
      in_met laws q sources begins p.x.paths p.x.at p.some p.stands
      (bounded_fronts laws q sources begins p.x.paths p.x.at p.stands
      (subst (IsBounded q.bounds (graphs_of q.files) q.start) (sym p.edges) bounded))

  bounded_there : (es : List EdgeAt) (p : IsCutInto es) → IsBounded q.bounds (graphs_of q.files) q.start es → is_bounded q p.x.paths ≡ true
  bounded_there es p bounded =
      (bounded_decides laws q sources begins p.x p.stands p.some).1
      (subst (IsBounded q.bounds (graphs_of q.files) q.start) (sym p.edges) bounded)

  lands_there : (es : List EdgeAt) (p : IsCutInto es) → IsCounted (graphs_of q.files) q.start es → lands q p.x ≡ true
  lands_there es p counted =
      lands_told p.x ((told p.x p.stands p.some).counted.0 (subst (IsCounted (graphs_of q.files) q.start) (sym p.edges) counted)).1

  -- no two that are met have the same edges
  pub same_edges : (a b : Joined) → IsIn a (met q) → IsIn b (met q) → joined_edges a ≡ joined_edges b → a ≡ b
  same_edges a b ga gb e =
      let sa = met_stands a ga in
      let sb = met_stands b gb in
      same_joined laws q sources begins a b sa sb (laws.unique q.files q.node a.at b.at a.paths b.paths sources sa.leads sb.leads e)

  apart_edges : (p : Joined → Bool) → IsApart (map joined_edges (filter p (met q)))
  apart_edges p =
      apart_images joined_edges (filter p (met q))
      (λ a b ga gb e. same_edges a b (IsIn-filter_from p a (met q) ga).0 (IsIn-filter_from p b (met q) gb).0 e)
      (IsApart-filter p (met q) (apart_meets (q.bounds.edges + 1) q (none_joined q) sources))

  -- the complete ones
  complete_from : (es : List EdgeAt) → Contains (map joined_edges (complete_met q)) es → IsBoundedComplete q.bounds (graphs_of q.files) q.start es
  complete_from es h =
      let m = IsIn-map_from joined_edges es (complete_met q) (IsIn-from_Contains (map joined_edges (complete_met q)) es h) in
      let k = IsIn-filter_from (is_bounded_complete q) m.0 (met q) m.1 in
      let t = and_parts (is_at_result q m.0.at) (is_bounded q m.0.paths) k.1 in
      let s = met_stands m.0 k.0 in
      let some = met_some m.0 k.0 in
      subst (IsBoundedComplete q.bounds (graphs_of q.files) q.start) m.2
      record {
        complete = (told m.0 s some).complete.1 (s.straight, (result_decides m.0.at).0 t.0);
        bounded = (bounded_decides laws q sources begins m.0 s some).0 t.1;
      }

  counted_from_complete : (es : List EdgeAt) → IsComplete (graphs_of q.files) q.start es → IsCounted (graphs_of q.files) q.start es
  counted_from_complete es h = record {
    nonempty = h.nonempty;
    runs = some_ends q (run (graphs_of q.files) q.start es) h.ends;
    straight = h.straight;
    lands = inr h;
  }

  complete_there : (es : List EdgeAt) → IsBoundedComplete q.bounds (graphs_of q.files) q.start es → Contains (map joined_edges (complete_met q)) es
  complete_there es h =
      let p = paths_of es (counted_from_complete es h.complete) in
      let ends = ((told p.x p.stands p.some).complete.0 (subst (IsComplete (graphs_of q.files) q.start) (sym p.edges) h.complete)).1 in
      Contains-from_IsIn (map joined_edges (complete_met q)) es
      (subst (λ (xs : List EdgeAt). IsIn xs (map joined_edges (complete_met q))) p.edges
      (IsIn-map joined_edges p.x (complete_met q)
      (IsIn-filter (is_bounded_complete q) p.x (met q) (counted_met_there es p h.bounded)
      (and_from (is_at_result q p.x.at) (is_bounded q p.x.paths) ((result_decides p.x.at).1 ends) (bounded_there es p h.bounded)))))

  -- the counted ones
  counted_from : (es : List EdgeAt) → IsIn es (map joined_edges (counted_met q)) → IsBoundedCounted q.bounds (graphs_of q.files) q.start es
  counted_from es h =
      let m = IsIn-map_from joined_edges es (counted_met q) h in
      let k = IsIn-filter_from (is_bounded_counted q) m.0 (met q) m.1 in
      let t = and_parts (lands q m.0) (is_bounded q m.0.paths) k.1 in
      let s = met_stands m.0 k.0 in
      let some = met_some m.0 k.0 in
      subst (IsBoundedCounted q.bounds (graphs_of q.files) q.start) m.2
      record { counted = counted_of m.0 s some t.0; bounded = (bounded_decides laws q sources begins m.0 s some).0 t.1 }

  counted_there : (es : List EdgeAt) → IsBoundedCounted q.bounds (graphs_of q.files) q.start es → IsIn es (map joined_edges (counted_met q))
  counted_there es h =
      let p = paths_of es h.counted in
      subst (λ (xs : List EdgeAt). IsIn xs (map joined_edges (counted_met q))) p.edges
      (IsIn-map joined_edges p.x (counted_met q)
      (IsIn-filter (is_bounded_counted q) p.x (met q) (counted_met_there es p h.bounded)
      (and_from (lands q p.x) (is_bounded q p.x.paths) (lands_there es p h.counted) (bounded_there es p h.bounded))))

  crowded_from : max_runs < length (counted_met q) → IsCrowded q.bounds (graphs_of q.files) q.start
  crowded_from more = (
    map joined_edges (counted_met q),
    apart_edges (is_bounded_counted q),
    each_member (IsBoundedCounted q.bounds (graphs_of q.files) q.start) (map joined_edges (counted_met q)) counted_from,
    subst (λ (n : ℕ). max_runs < n) (sym (length-map (counted_met q) joined_edges)) more,
  )

  crowded_there : IsCrowded q.bounds (graphs_of q.files) q.start → max_runs < length (counted_met q)
  crowded_there h =
      let fits : length h.0 ≤ length (map joined_edges (counted_met q)) =
      length-apart_le h.0 (map joined_edges (counted_met q)) h.1
      (λ es g. counted_there es (at_member (IsBoundedCounted q.bounds (graphs_of q.files) q.start) es h.0 h.2 g)) in
      let same : length (map joined_edges (counted_met q)) ≡ length (counted_met q) = length-map (counted_met q) joined_edges in
      let more : max_runs < length h.0 = h.3 in
      omega arith

  -- the ones past the bounds
  limit_from : IsTrue (meets_past q) → HasLimit q.bounds (graphs_of q.files) q.start
  limit_from t =
      let m = passing_member (is_past_bounds q) (met q) t in
      let k = and_parts (lands q m.0) (not (is_bounded q m.0.paths)) m.2 in
      let s = met_stands m.0 m.1 in
      let some = met_some m.0 m.1 in (
        joined_edges m.0,
        counted_of m.0 s some k.0,
        λ b. both_ways (is_bounded q m.0.paths) (not-true (is_bounded q m.0.paths) k.1) ((bounded_decides laws q sources begins m.0 s some).1 b),
      )

  limit_there : HasLimit q.bounds (graphs_of q.files) q.start → IsTrue (meets_past q)
  limit_there h =
      let p = paths_of h.0 h.1 in
      let f : is_bounded q p.x.paths ≡ false = false_from_ne_true (is_bounded q p.x.paths)
      (λ t. h.2 (subst (IsBounded q.bounds (graphs_of q.files) q.start) p.edges ((bounded_decides laws q sources begins p.x p.stands p.some).0 t))) in
      let s = stop laws q sources begins p.x.paths p.x.at p.some p.stands (lands_there h.0 p h.1) f in
      list_any-from_member (is_past_bounds q) (joined s.paths s.at) (met q)
      (in_met laws q sources begins s.paths s.at s.some s.stands s.fronts)
      (and_from (lands q (joined s.paths s.at)) (not (is_bounded q s.paths)) s.lands_there (not_from_false (is_bounded q s.paths) s.unbounded))

  pub told_by_met : IsToldByMet q
  told_by_met = record {
    once = apart_edges (is_bounded_complete q);
    complete = λ es. (complete_from es, complete_there es);
    crowded = (crowded_from, crowded_there);
    limit = (limit_from, limit_there);
  }

pub met_paths_tell : CutLaws → MetPathsTell
met_paths_tell laws q sources begins = told_by_met laws q sources begins
