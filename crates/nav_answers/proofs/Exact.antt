-- The complete runs of a reference, with their ends, tell its definitions.
use Rattle.std.proofs.Common.{◌≡◌, refl, sym, ◌∙◌, ap, subst, List, [], ◌∷◌, Bool, true, false, eqb, eq-eqb, eqb-true, Option, Some, None, is_some, IsSome, IsSomeAnd, IsTrue, MatchOption, Contains, ◌↔◌, All}
use Rattle.std.specs.Prelude.{filter, not}
use Rattle.std.specs.List.{AllByRecursion}
use Rattle.std.proofs.lemmas.Bool.{false≢true, and_parts, and_from}
use Rattle.std.proofs.lemmas.List.Elements.{All-from_recursion, recursion_from_All}
use Rattle.graph_nodes.specs.Graph.{Graph}
use Rattle.stacks_vars.specs.declared.scopes.NodeAt.{NodeAt}
use Rattle.partial_path.specs.declared.config.Spot.TheVariants.{At}
use Rattle.partial_path.specs.declared.config.Config.{Config}
use Rattle.partial_path.specs.declared.config.EdgeAt.{EdgeAt}
use Rattle.partial_path.specs.declared.bounds.Bounds.{Bounds}
use Rattle.partial_path.specs.Spots.{is_node}
use Rattle.partial_path.specs.Runs.{run, IsAtDefinition}
use Rattle.partial_path.specs.Counted.{IsBoundedComplete}
use Rattle.partial_path.proofs.Followed.{followed_by}
use Rattle.shadowing.specs.declared.paths.EdgeStep.{EdgeStep}
use Rattle.shadowing.specs.Shadow.{shadows, is_shadowed}
use Rattle.stitcher.specs.Found.{EdgePath}
use Rattle.stitcher.specs.Answers.{kept_edges, EndsThere, AreCompleteRuns}
use Rattle.whole_search.specs.declared.found.Hit.{Hit}
use Rattle.whole_search.specs.Answers.{path_of, EndsAt, IsUnshadowed, IsDefinitionFrom, IsRising, AreDefinitions}
use Rattle.whole_search.proofs.Prefixes.{first_step}
use Rattle.list_facts.specs.Members.{IsIn}
use Rattle.list_facts.proofs.Members.{IsIn-filter, IsIn-filter_from, IsIn-map, IsIn-map_from, IsIn-from_Contains, Contains-from_IsIn, passing_member, list_any-from_member, at_member, each_member}
use Rattle.nav_answers.specs.Replies.{hit_of}
use Rattle.nav_answers.specs.Kept.{IsEdgeOf, HasEdges, run_path, run_paths, stays, end_of, ends_of}

-- the edges of a run are there
run_edges : (files : List Graph) (c : Config) (es : List EdgeAt) → IsSome (run files c es) → AllByRecursion (IsEdgeOf files) es
run_edges files c [] h = tt
run_edges files c (e ∷ es) h =
    let f = first_step files c e es h in
    let by = followed_by files c f.0 e f.1 in
    (ap is_some by.there, run_edges files f.0 es f.2)

ends_run : (files : List Graph) (o : Option Config) → IsSomeAnd o (IsAtDefinition files) → IsSome o
ends_run files None h = absurd h
ends_run files (Some at) h = refl

-- where a run ends, as its end says
ends_at : (o : Option Config) (p : NodeAt) → MatchOption o ⊥ (λ (end : Config). end.spot ≡ At p) → IsSomeAnd o (λ end. IsTrue (is_node p.file p.node end.spot))
ends_at None p h = absurd h
ends_at (Some end) p h =
    subst (λ s. IsTrue (is_node p.file p.node s)) (sym h)
    (and_from (eqb p.file p.file) (eqb p.node p.node) (eq-eqb p.file p.file refl) (eq-eqb p.node p.node refl))

same_hit : (a b : Hit) → a.file ≡ b.file → a.node ≡ b.node → a ≡ b
same_hit a b f n = λ i. record { file = f i; node = n i }

ends_so : (o : Option Config) (p : NodeAt) (hit : Hit) → MatchOption o ⊥ (λ (end : Config). end.spot ≡ At p) → IsSomeAnd o (λ end. IsTrue (is_node hit.file hit.node end.spot)) → hit_of p ≡ hit
ends_so None p hit h k = absurd h
ends_so (Some end) p hit h k =
    let both = and_parts (eqb p.file hit.file) (eqb p.node hit.node) (subst (λ s. IsTrue (is_node hit.file hit.node s)) h k) in
    same_hit (hit_of p) hit (eqb-true p.file hit.file both.0) (eqb-true p.node hit.node both.1)

module _ (bounds : Bounds) (files : List Graph) (c : Config) (runs : List EdgePath) (are : AreCompleteRuns bounds files c runs) where
  edges_of : EdgePath → List EdgeAt
  edges_of p = p.edges

  member_complete : (p : EdgePath) → IsIn p runs → IsBoundedComplete bounds files c p.edges
  member_complete p m =
      (are.exact p.edges).0 (Contains-from_IsIn (kept_edges runs) p.edges (IsIn-map (λ (p : EdgePath). p.edges) p runs m))

  complete_member : (es : List EdgeAt) → IsBoundedComplete bounds files c es → (p : EdgePath) × IsIn p runs × (p.edges ≡ es)
  complete_member es h =
      IsIn-map_from (λ (p : EdgePath). p.edges) es runs (IsIn-from_Contains (kept_edges runs) es ((are.exact es).1 h))

  pub has_edges : All (HasEdges files) runs
  has_edges =
      All-from_recursion (HasEdges files) runs
      (each_member (HasEdges files) runs (λ p m. All-from_recursion (IsEdgeOf files) p.edges (run_edges files c p.edges (ends_run files (run files c p.edges) (member_complete p m).complete.ends))))

  member_ends : (p : EdgePath) → IsIn p runs → EndsThere files c p
  member_ends p m = at_member (EndsThere files c) p runs (recursion_from_All (EndsThere files c) runs are.ends) m

  keeps : EdgePath → Bool
  keeps p = stays (run_paths files runs) (run_path files p)

  definition_from : (hit : Hit) → IsIn hit (ends_of files runs) → IsDefinitionFrom bounds files c hit
  definition_from hit h =
      let p = IsIn-map_from end_of hit (filter (λ (p : EdgePath). stays (run_paths files runs) (run_path files p)) runs) h in
      let f = IsIn-filter_from (λ (p : EdgePath). stays (run_paths files runs) (run_path files p)) p.0 runs p.1 in (
        p.0.edges,
        record {
          bounded_complete = member_complete p.0 f.0;
          unshadowed = λ others complete over.
              let q = complete_member others complete in
              let shadowed : is_shadowed (run_paths files runs) (run_path files p.0) ≡ true
              = list_any-from_member (λ (other : List EdgeStep). shadows other (run_path files p.0)) (run_path files q.0) (run_paths files runs) (IsIn-map (run_path files) q.0 runs q.1)
              (ap (λ es. shadows (path_of files es) (run_path files p.0)) q.2 ∙ over) in
              absurd (false≢true (sym (ap not shadowed) ∙ f.1));
        },
        subst (EndsAt files c p.0.edges) p.2 (ends_at (run files c p.0.edges) p.0.end (member_ends p.0 f.0)),
      )

  unshadowed_stays : (p : EdgePath) → IsUnshadowed bounds files c p.edges → stays (run_paths files runs) (run_path files p) ≡ true
  unshadowed_stays p h = by (is_shadowed (run_paths files runs) (run_path files p)) refl
    where
      by : (b : Bool) → is_shadowed (run_paths files runs) (run_path files p) ≡ b → stays (run_paths files runs) (run_path files p) ≡ true
      by false e = ap not e
      by true e =
          let m = passing_member (λ (other : List EdgeStep). shadows other (run_path files p)) (run_paths files runs) e in
          let q = IsIn-map_from (run_path files) m.0 runs m.1 in
          absurd (h.unshadowed q.0.edges (member_complete q.0 q.1) (ap (λ other. shadows other (run_path files p)) q.2 ∙ m.2))

  from_definition : (hit : Hit) → IsDefinitionFrom bounds files c hit → IsIn hit (ends_of files runs)
  from_definition hit h =
      let p = complete_member h.0 h.1.bounded_complete in
      let un : IsUnshadowed bounds files c p.0.edges = subst (IsUnshadowed bounds files c) (sym p.2) h.1 in
      let ends : EndsAt files c p.0.edges hit = subst (λ es. EndsAt files c es hit) (sym p.2) h.2 in
      subst (λ x. IsIn x (ends_of files runs)) (ends_so (run files c p.0.edges) p.0.end hit (member_ends p.0 p.1) ends)
      (IsIn-map end_of p.0 (filter (λ (p : EdgePath). stays (run_paths files runs) (run_path files p)) runs)
      (IsIn-filter (λ (p : EdgePath). stays (run_paths files runs) (run_path files p)) p.0 runs p.1 (unshadowed_stays p.0 un)))

  -- rising rows that are exactly the ends of the runs that are kept are the definitions
  pub are_definitions : (found : List Hit) → IsRising found → ((hit : Hit) → Contains found hit ↔ Contains (ends_of files runs) hit) → AreDefinitions bounds files c found
  are_definitions found rising exact = record {
    rising = rising;
    exact = λ hit. (
      λ h. definition_from hit (IsIn-from_Contains (ends_of files runs) hit ((exact hit).0 h)),
      λ h. (exact hit).1 (Contains-from_IsIn (ends_of files runs) hit (from_definition hit h)),
    );
  }

-- the same of runs from where a reference starts
pub edges_from : (bounds : Bounds) (files : List Graph) (o : Option Config) (runs : List EdgePath)
    → IsSomeAnd o (λ c. AreCompleteRuns bounds files c runs) → All (HasEdges files) runs
edges_from bounds files None runs h = absurd h
edges_from bounds files (Some c) runs h = has_edges bounds files c runs h

pub definitions_from : (bounds : Bounds) (files : List Graph) (o : Option Config) (runs : List EdgePath) (found : List Hit)
    → IsSomeAnd o (λ c. AreCompleteRuns bounds files c runs) → IsRising found → ((hit : Hit) → Contains found hit ↔ Contains (ends_of files runs) hit)
    → IsSomeAnd o (λ c. AreDefinitions bounds files c found)
definitions_from bounds files None runs found h rising exact = absurd h
definitions_from bounds files (Some c) runs found h rising exact = are_definitions bounds files c runs h found rising exact
