-- What the runs that the search meets tell of the complete runs, and of the definitions that they end at.
use Rattle.std.proofs.Common.{◌≡◌, Bool, true, not, List, map, Option, Some, None, IsSome, IsSomeAnd, ◌↔◌, Contains, filter, sym, refl, subst}
use Rattle.std.proofs.lemmas.Bool.{and_parts, and_from, or_right, both_ways, not-true, not_from_false, false_from_ne_true}
use Rattle.graph_nodes.specs.Graph.{Graph}
use Rattle.partial_path.specs.declared.config.Spot.{Spot}
use Rattle.partial_path.specs.declared.config.Config.{Config}
use Rattle.partial_path.specs.declared.config.EdgeAt.{EdgeAt}
use Rattle.partial_path.specs.declared.bounds.Bounds.{Bounds}
use Rattle.partial_path.specs.Runs.{run, IsAtDefinition}
use Rattle.partial_path.specs.Counted.{IsBoundedComplete}
use Rattle.shadowing.specs.declared.paths.EdgeStep.{EdgeStep}
use Rattle.shadowing.specs.Shadow.{shadows, is_shadowed, unshadowed}
use Rattle.whole_search.specs.declared.found.Hit.{Hit}
use Rattle.whole_search.specs.Answers.{path_of, EndsAt, IsUnshadowed, IsDefinitionFrom, IsRising, AreDefinitions}
use Rattle.whole_search.specs.Walk.{is_bounded, completes, met_runs, IsLive, is_bounded_complete, ends_cut}
use Rattle.list_facts.specs.Members.{IsIn}
use Rattle.list_facts.proofs.Members.{IsIn-filter, IsIn-filter_from, IsIn-map, IsIn-map_from, IsIn-from_Contains, Contains-from_IsIn, passing_member, list_any-from_member}
use Rattle.whole_search.proofs.Reflect.{is_bounded_decides, counted_from, complete_from, completes_from}
use Rattle.whole_search.proofs.Reached.{IsIn-met_runs}
use Rattle.whole_search.proofs.MetCounted.{met_runs-sound}

ends_run : (files : List Graph) (o : Option Config) → IsSomeAnd o (IsAtDefinition files) → IsSome o
ends_run files None h = absurd h
ends_run files (Some at) h = refl

module _ (live : Spot → Bool) (bounds : Bounds) (files : List Graph) (c : Config) where
  -- the bounded complete runs that are met
  abbrev pub bounded_complete_met : List (List EdgeAt)
  bounded_complete_met = filter (is_bounded_complete bounds files c) (met_runs live bounds files c)

  complete_member : (es : List EdgeAt) → IsIn es bounded_complete_met → IsBoundedComplete bounds files c es
  complete_member es h =
      let there = IsIn-filter_from (is_bounded_complete bounds files c) es (met_runs live bounds files c) h in
      let sound = met_runs-sound live bounds files c es there.0 in
      let parts = and_parts (completes files c es) (is_bounded bounds files c es) there.1 in
      record { complete = complete_from files c es sound.1 parts.0; bounded = (is_bounded_decides bounds files c es).0 parts.1 }

  member_complete : IsLive live files → (es : List EdgeAt) → IsBoundedComplete bounds files c es → IsIn es bounded_complete_met
  member_complete is_live es h =
      let t : completes files c es ≡ true = completes_from files c es h.complete in
      let counted = counted_from files c es (ends_run files (run files c es) h.complete.ends) h.complete.straight (or_right (ends_cut files es) (completes files c es) t) in
      IsIn-filter (is_bounded_complete bounds files c) es (met_runs live bounds files c)
      (IsIn-met_runs live bounds files c is_live es counted h.bounded)
      (and_from (completes files c es) (is_bounded bounds files c es) t ((is_bounded_decides bounds files c es).1 h.bounded))

  -- they are exactly the bounded complete runs
  pub complete_runs : IsLive live files → (es : List EdgeAt) → IsIn es bounded_complete_met ↔ IsBoundedComplete bounds files c es
  complete_runs is_live es = (complete_member es, member_complete is_live es)

  pub complete_runs-Contains : IsLive live files → (es : List EdgeAt) → Contains bounded_complete_met es ↔ IsBoundedComplete bounds files c es
  complete_runs-Contains is_live es = (
    λ h. complete_member es (IsIn-from_Contains bounded_complete_met es h),
    λ h. Contains-from_IsIn bounded_complete_met es (member_complete is_live es h),
  )

  -- the paths of the bounded complete runs that are met
  abbrev pub paths_met : List (List EdgeStep)
  paths_met = map (path_of files) bounded_complete_met

  -- the node ends a run that is met and whose path is among those kept
  abbrev pub EndsKept : List (List EdgeStep) → Hit → Type 0
  EndsKept kept hit =
      (es : List EdgeAt) × IsIn es bounded_complete_met × IsIn (path_of files es) kept × EndsAt files c es hit

  kept_unshadowed : IsLive live files → (es : List EdgeAt) → IsIn es bounded_complete_met → IsIn (path_of files es) (unshadowed paths_met) → IsUnshadowed bounds files c es
  kept_unshadowed is_live es there kept =
      record {
        bounded_complete = complete_member es there;
        unshadowed = λ others h t.
            both_ways (is_shadowed paths_met (path_of files es))
            (not-true (is_shadowed paths_met (path_of files es))
            (IsIn-filter_from (λ (path : List EdgeStep). not (is_shadowed paths_met path)) (path_of files es) paths_met kept).1)
            (list_any-from_member (λ (other : List EdgeStep). shadows other (path_of files es)) (path_of files others) paths_met
            (IsIn-map (path_of files) others bounded_complete_met (member_complete is_live others h)) t);
      }

  no_shadow : (es : List EdgeAt) → IsUnshadowed bounds files c es → is_shadowed paths_met (path_of files es) ≡ true → ⊥
  no_shadow es h t =
      let m = passing_member (λ (other : List EdgeStep). shadows other (path_of files es)) paths_met t in
      let r = IsIn-map_from (path_of files) m.0 bounded_complete_met m.1 in
      h.unshadowed r.0 (complete_member r.0 r.1) (subst (λ (p : List EdgeStep). shadows p (path_of files es) ≡ true) (sym r.2) m.2)

  unshadowed_kept : IsLive live files → (es : List EdgeAt) → IsUnshadowed bounds files c es → IsIn (path_of files es) (unshadowed paths_met)
  unshadowed_kept is_live es h =
      IsIn-filter (λ (path : List EdgeStep). not (is_shadowed paths_met path)) (path_of files es) paths_met
      (IsIn-map (path_of files) es bounded_complete_met (member_complete is_live es h.bounded_complete))
      (not_from_false (is_shadowed paths_met (path_of files es))
      (false_from_ne_true (is_shadowed paths_met (path_of files es)) (no_shadow es h)))

  -- where the paths kept are the unshadowed ones, these nodes are exactly the definitions
  pub definition_from_kept : IsLive live files → (kept : List (List EdgeStep)) → kept ≡ unshadowed paths_met → (hit : Hit) → EndsKept kept hit ↔ IsDefinitionFrom bounds files c hit
  definition_from_kept is_live kept is hit = (
    λ h. (h.0, kept_unshadowed is_live h.0 h.1 (subst (λ (ps : List (List EdgeStep)). IsIn (path_of files h.0) ps) is h.2), h.3),
    λ h. (
      h.0,
      member_complete is_live h.0 h.1.bounded_complete,
      subst (λ (ps : List (List EdgeStep)). IsIn (path_of files h.0) ps) (sym is) (unshadowed_kept is_live h.0 h.1),
      h.2,
    ),
  )

  -- rising rows that hold exactly these nodes are the definitions
  pub rows : IsLive live files → (kept : List (List EdgeStep)) → kept ≡ unshadowed paths_met → (found : List Hit) → IsRising found → ((hit : Hit) → Contains found hit ↔ EndsKept kept hit) → AreDefinitions bounds files c found
  rows is_live kept is found rising exact =
      record {
        rising = rising;
        exact = λ hit. (
          λ h. (definition_from_kept is_live kept is hit).0 ((exact hit).0 h),
          λ h. (exact hit).1 ((definition_from_kept is_live kept is hit).1 h),
        );
      }

  -- the same, with std's membership
  abbrev pub EndsContained : List (List EdgeStep) → Hit → Type 0
  EndsContained kept hit =
      (es : List EdgeAt) × Contains bounded_complete_met es × Contains kept (path_of files es) × EndsAt files c es hit

  pub rows-Contains : IsLive live files → (kept : List (List EdgeStep)) → kept ≡ unshadowed paths_met → (found : List Hit) → IsRising found → ((hit : Hit) → Contains found hit ↔ EndsContained kept hit) → AreDefinitions bounds files c found
  rows-Contains is_live kept is found rising exact =
      rows is_live kept is found rising (λ hit. (λ h. from_contained hit ((exact hit).0 h), λ h. (exact hit).1 (to_contained hit h)))
    where
      from_contained : (hit : Hit) → EndsContained kept hit → EndsKept kept hit
      from_contained hit h = (h.0, IsIn-from_Contains bounded_complete_met h.0 h.1, IsIn-from_Contains kept (path_of files h.0) h.2, h.3)

      to_contained : (hit : Hit) → EndsKept kept hit → EndsContained kept hit
      to_contained hit h = (h.0, Contains-from_IsIn bounded_complete_met h.0 h.1, Contains-from_IsIn kept (path_of files h.0) h.2, h.3)
