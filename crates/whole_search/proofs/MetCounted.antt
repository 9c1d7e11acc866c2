-- What the runs that the search meets tell of the counted runs: when a start is crowded, and when it has a limit.
use Rattle.std.proofs.Common.{◌≡◌, ℕ, ◌<◌, ◌≤◌, Bool, true, false, not, List, [], ◌++◌, length, IsSome, IsTrue, ◌↔◌, filter, sym, refl, subst, arith, append-nil}
use Rattle.std.specs.List.{list_any}
use Rattle.std.proofs.lemmas.Bool.{and_parts, and_from, and_right, both_ways, not-true}
use Rattle.graph_nodes.specs.Graph.{Graph}
use Rattle.partial_path.specs.declared.config.Spot.{Spot}
use Rattle.partial_path.specs.declared.config.Config.{Config}
use Rattle.partial_path.specs.declared.config.EdgeAt.{EdgeAt}
use Rattle.partial_path.specs.declared.bounds.Bounds.{Bounds}
use Rattle.partial_path.specs.declared.bounds.TheConstants.{MAX_RUNS}
use Rattle.partial_path.specs.Runs.{run, IsStraight, IsApart}
use Rattle.partial_path.specs.Counted.{IsBoundedCounted, IsCrowded, HasLimit}
use Rattle.whole_search.specs.Walk.{is_bounded, completes, lands, longest, meets, met_runs, IsLive, is_bounded_counted, is_past_bounds, is_bounded_complete}
use Rattle.list_facts.specs.Members.{IsIn}
use Rattle.list_facts.proofs.Members.{IsIn-append_left, IsIn-filter, IsIn-filter_from, each_member, at_member, passing_member, list_any-from_member, filter-none}
use Rattle.list_facts.proofs.Apart.{IsApart-append_left, IsApart-filter}
use Rattle.list_facts.proofs.Sums.{length-apart_le}
use Rattle.whole_search.proofs.Prefixes.{unbounded_longer}
use Rattle.whole_search.proofs.Reflect.{is_bounded_decides, counted_from, lands_from}
use Rattle.whole_search.proofs.Rising.{AreSmall}
use Rattle.whole_search.proofs.MetRuns.{meets_begin, meets_sound, IsApart-meets}
use Rattle.whole_search.proofs.Reached.{IsIn-met_runs, past_bounds-met}

module _ (live : Spot → Bool) (bounds : Bounds) (files : List Graph) (c : Config) where
  -- each run that is met is a straight run
  pub met_runs-sound : (es : List EdgeAt) → IsIn es (met_runs live bounds files c) → IsSome (run files c es) × IsStraight files c es
  met_runs-sound es h = meets_sound live bounds files c (longest bounds) [] es refl (tt, tt) h

  -- no two of them are equal
  pub IsApart-met_runs : IsApart (met_runs live bounds files c)
  IsApart-met_runs = IsApart-meets live bounds files c (longest bounds) []

  unbounded_on : (n : ℕ) (es : List EdgeAt) → is_bounded bounds files c es ≡ false → (x : List EdgeAt) → IsIn x (meets n live bounds files c es) → is_bounded bounds files c x ≡ false
  unbounded_on n es f x h =
      let m = meets_begin live bounds files c n es x h in
      subst (λ (xs : List EdgeAt). is_bounded bounds files c xs ≡ false) m.1 (unbounded_longer bounds files c es m.0 f)

  -- from an unbounded run on nothing bounded is met
  pub filter-unbounded_counted : (n : ℕ) (es : List EdgeAt) → is_bounded bounds files c es ≡ false → filter (is_bounded_counted bounds files c) (meets n live bounds files c es) ≡ []
  filter-unbounded_counted n es f =
      filter-none (is_bounded_counted bounds files c) (meets n live bounds files c es)
      (λ x h. and_right (lands files c x) (is_bounded bounds files c x) (unbounded_on n es f x h))

  pub filter-unbounded_complete : (n : ℕ) (es : List EdgeAt) → is_bounded bounds files c es ≡ false → filter (is_bounded_complete bounds files c) (meets n live bounds files c es) ≡ []
  filter-unbounded_complete n es f =
      filter-none (is_bounded_complete bounds files c) (meets n live bounds files c es)
      (λ x h. and_right (completes files c x) (is_bounded bounds files c x) (unbounded_on n es f x h))

  -- the bounded counted runs that are met
  abbrev pub bounded_counted_met : List (List EdgeAt)
  bounded_counted_met = filter (is_bounded_counted bounds files c) (met_runs live bounds files c)

  counted_member : (es : List EdgeAt) → IsIn es bounded_counted_met → IsBoundedCounted bounds files c es
  counted_member es h =
      let there = IsIn-filter_from (is_bounded_counted bounds files c) es (met_runs live bounds files c) h in
      let sound = met_runs-sound es there.0 in
      let parts = and_parts (lands files c es) (is_bounded bounds files c es) there.1 in
      record { counted = counted_from files c es sound.0 sound.1 parts.0; bounded = (is_bounded_decides bounds files c es).0 parts.1 }

  member_counted : IsLive live files → (es : List EdgeAt) → IsBoundedCounted bounds files c es → IsIn es bounded_counted_met
  member_counted is_live es h =
      IsIn-filter (is_bounded_counted bounds files c) es (met_runs live bounds files c)
      (IsIn-met_runs live bounds files c is_live es h.counted h.bounded)
      (and_from (lands files c es) (is_bounded bounds files c es) (lands_from files c es h.counted) ((is_bounded_decides bounds files c es).1 h.bounded))

  -- more than `MAX_RUNS` of them, be they only the first, show that the start is crowded
  pub crowded-from_front : (found rest : List (List EdgeAt)) → found ++ rest ≡ bounded_counted_met → MAX_RUNS < length found → IsCrowded bounds files c
  crowded-from_front found rest is more = (
    found,
    IsApart-append_left found rest
        (subst (λ (xs : List (List EdgeAt)). IsApart xs) (sym is)
        (IsApart-filter (is_bounded_counted bounds files c) (met_runs live bounds files c) IsApart-met_runs)),
    each_member (IsBoundedCounted bounds files c) found
        (λ es h. counted_member es (subst (λ (xs : List (List EdgeAt)). IsIn es xs) is (IsIn-append_left es found rest h))),
    more,
  )

  pub crowded : MAX_RUNS < length bounded_counted_met → IsCrowded bounds files c
  crowded more = crowded-from_front bounded_counted_met [] (append-nil bounded_counted_met) more

  -- at most so many of them show that it isn't
  pub not_crowded : IsLive live files → length bounded_counted_met ≤ MAX_RUNS → ¬ IsCrowded bounds files c
  not_crowded is_live few h =
      let fits : length h.0 ≤ length bounded_counted_met =
      length-apart_le h.0 bounded_counted_met h.1
      (λ es there. member_counted is_live es (at_member (IsBoundedCounted bounds files c) es h.0 h.2 there)) in
      let more : MAX_RUNS < length h.0 = h.3 in
      omega arith

  limit_from : list_any (is_past_bounds bounds files c) (met_runs live bounds files c) ≡ true → HasLimit bounds files c
  limit_from t =
      let m = passing_member (is_past_bounds bounds files c) (met_runs live bounds files c) t in
      let sound = met_runs-sound m.0 m.1 in
      let parts = and_parts (lands files c m.0) (not (is_bounded bounds files c m.0)) m.2 in (
        m.0,
        counted_from files c m.0 sound.0 sound.1 parts.0,
        λ b. both_ways (is_bounded bounds files c m.0) (not-true (is_bounded bounds files c m.0) parts.1) ((is_bounded_decides bounds files c m.0).1 b),
      )

  limit_shown : IsLive live files → AreSmall files → HasLimit bounds files c → list_any (is_past_bounds bounds files c) (met_runs live bounds files c) ≡ true
  limit_shown is_live small h =
      let p = past_bounds-met live bounds files c is_live small h.0 h.1 h.2 in
      list_any-from_member (is_past_bounds bounds files c) p.0 (met_runs live bounds files c) p.1 p.2

  -- a run past the bounds is met exactly where some counted run isn't bounded
  pub limit : IsLive live files → AreSmall files → IsTrue (list_any (is_past_bounds bounds files c) (met_runs live bounds files c)) ↔ HasLimit bounds files c
  limit is_live small = (limit_from, limit_shown is_live small)
