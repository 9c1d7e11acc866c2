-- What makes a dead end, and that no run lands that is met from one.
use Rattle.std.proofs.Common.{◌≡◌, ◌≢◌, ◌-◌, Bool, true, false, List, [], ◌∷◌, ◌++◌, length, map, Option, Some, IsSome, is_some, All, ◌⊎◌, inl, inr, sym, refl, ap, ◌∙◌, subst, append_assoc}
use Rattle.std.specs.Option.{option_map_or}
use Rattle.std.specs.List.{flat_map}
use Rattle.std.proofs.lemmas.Bool.{or_cases, both_ways, false_from_ne_true}
use Rattle.std.proofs.lemmas.List.Elements.{All-same, All-cons, All-nil, All-push, All-contains}
use Rattle.graph_nodes.specs.Graph.{Graph}
use Rattle.partial_path.specs.declared.config.Spot.{Spot}
use Rattle.partial_path.specs.declared.config.Config.{Config}
use Rattle.partial_path.specs.declared.config.EdgeAt.{EdgeAt}
use Rattle.partial_path.specs.declared.bounds.Bounds.{Bounds}
use Rattle.partial_path.specs.Step.{step, is_cut_edge}
use Rattle.partial_path.specs.Runs.{run}
use Rattle.whole_search.specs.Refusals.{IsDeadEnd, IsRefusedAt, LeadsNowhere}
use Rattle.whole_search.specs.Walk.{ends_cut, is_at_definition, completes, lands, longest, out, with_edge, IsLive}
use Rattle.list_facts.specs.Members.{IsIn}
use Rattle.list_facts.proofs.Members.{IsIn-map_from, IsIn-reverse_from, IsIn-flat_map_from, Contains-from_IsIn}
use Rattle.whole_search.proofs.Ahead.{onward, next_edges, onward-unrolled}
use Rattle.whole_search.proofs.MetRuns.{meets_begin, meets_runs}
use Rattle.whole_search.proofs.Outs.{IsIn-out}
use Rattle.whole_search.proofs.Prefixes.{run-append, first_step, run_one, lands_rest}
use Rattle.whole_search.proofs.Rising.{nonempty_append}
use Rattle.whole_search.proofs.Serving.{behind_one}

-- one edge that leads to nothing doesn't land
one_lands : (files : List Graph) (at next : Config) (e : EdgeAt) → step files at e ≡ Some next → IsRefusedAt files e next → lands files at (e ∷ []) ≡ true → ⊥
one_lands files at next e h r t = by (or_cases (ends_cut files (e ∷ [])) (completes files at (e ∷ [])) t)
  where
    by : (ends_cut files (e ∷ []) ≡ true) ⊎ (completes files at (e ∷ []) ≡ true) → ⊥
    by (inl cut) = both_ways (is_cut_edge files e) r.uncut cut
    by (inr complete) =
        both_ways (is_at_definition files next) r.no_result
        (sym (ap (λ (o : Option Config). option_map_or (is_at_definition files) o false) (run_one files at next e h)) ∙ complete)

-- a place is a dead end where each edge from it leads to nothing
pub IsDeadEnd-from_edges : (files : List Graph) (at : Config) (edges : List EdgeAt) → edges ≡ out files at.spot → All (LeadsNowhere files at) edges → IsDeadEnd files at
IsDeadEnd-from_edges files at edges is all = record { lands_nowhere = by }
  where
    each : (e : EdgeAt) (next : Config) → step files at e ≡ Some next → IsRefusedAt files e next
    each e next h =
        let there : IsIn e edges = subst (λ (xs : List EdgeAt). IsIn e xs) (sym is) (IsIn-out files at next e h) in
        (All-contains (LeadsNowhere files at) edges e all (Contains-from_IsIn edges e there)).refused next h

    by : (es : List EdgeAt) → es ≢ [] → IsSome (run files at es) → lands files at es ≡ true → ⊥
    by [] some runs t = some refl
    by (e ∷ []) some runs t =
        let f = first_step files at e [] runs in
        one_lands files at f.0 e f.1 (each e f.0 f.1) t
    by (e ∷ x ∷ xs) some runs t =
        let f = first_step files at e (x ∷ xs) runs in
        (each e f.0 f.1).dead_end.lands_nowhere (x ∷ xs) (nonempty_append [] x xs) f.2
        (lands_rest files at f.0 (e ∷ []) x xs (run_one files at f.0 e f.1) t)

-- and where its spot isn't live
pub IsDeadEnd-from_spot : (live : Spot → Bool) (files : List Graph) (at : Config) → IsLive live files → live at.spot ≡ false → IsDeadEnd files at
IsDeadEnd-from_spot live files at is_live f =
    record { lands_nowhere = λ es some runs t. both_ways (live at.spot) f (is_live at es some runs t) }

-- one dead end more, or that one alone
pub All-kept : (files : List Graph) (old new : List Config) (at : Config) → (new ≡ old ++ at ∷ []) ⊎ (new ≡ at ∷ []) → All (IsDeadEnd files) old → IsDeadEnd files at → All (IsDeadEnd files) new
All-kept files old new at (inl is) all one = All-same (IsDeadEnd files) new _ is (All-push (IsDeadEnd files) old at all one)
All-kept files old new at (inr is) all one =
    All-same (IsDeadEnd files) new _ is (All-cons (IsDeadEnd files) at [] one (All-nil (IsDeadEnd files)))

module _ (live : Spot → Bool) where
  -- no run that is met after a dead end lands
  pub met_after_dead_end : (bounds : Bounds) (files : List Graph) (c at : Config) (es : List EdgeAt) → run files c es ≡ Some at → IsDeadEnd files at → (x : List EdgeAt) → IsIn x (flat_map (onward live bounds files c) (behind_one es (next_edges live bounds files c es at))) → lands files c x ≡ false
  met_after_dead_end bounds files c at es stands dead x h =
      false_from_ne_true (lands files c x)
      (λ t.
      dead.lands_nowhere (m.0 ∷ b.0) (nonempty_append [] m.0 b.0)
      (subst (λ (o : Option Config). IsSome o) (run-append files c es (m.0 ∷ b.0) at stands) (subst (λ (xs : List EdgeAt). IsSome (run files c xs)) (sym is) runs))
      (lands_rest files c at es m.0 b.0 stands (subst (λ (xs : List EdgeAt). lands files c xs ≡ true) (sym is) t)))
    where
      edges : List EdgeAt
      edges = next_edges live bounds files c es at

      r : (z : List EdgeAt) × IsIn z (behind_one es edges) × IsIn x (onward live bounds files c z)
      r = IsIn-flat_map_from (onward live bounds files c) x (behind_one es edges) h

      m : (e : EdgeAt) × IsIn e edges × (with_edge es e ≡ r.0)
      m = IsIn-map_from (with_edge es) r.0 edges (IsIn-reverse_from r.0 (map (with_edge es) edges) r.1)

      b : (more : List EdgeAt) × (r.0 ++ more ≡ x)
      b = meets_begin live bounds files c (longest bounds - length r.0) r.0 x r.2

      is : es ++ m.0 ∷ b.0 ≡ x
      is = sym (append_assoc es (m.0 ∷ []) b.0) ∙ (ap (λ (xs : List EdgeAt). xs ++ b.0) m.2 ∙ b.1)

      runs : IsSome (run files c x)
      runs =
          meets_runs live bounds files c (longest bounds - length es) es x (ap is_some stands)
          (subst (λ (xs : List (List EdgeAt)). IsIn x xs) (sym (onward-unrolled live bounds files c at es stands)) (inr h))
