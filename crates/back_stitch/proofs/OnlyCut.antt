-- A run is cut into stored paths in one way alone, whatever the stacks are.
use Rattle.std.proofs.Common.{◌≡◌, ◌≢◌, refl, sym, ap, ◌∙◌, subst, ℕ, List, [], ◌∷◌, true, Some, eqb, eqb-true, inl, inr}
use Rattle.std.specs.Prelude.{All}
use Rattle.std.proofs.lemmas.Bool.{false≢true, and_parts}
use Rattle.std.proofs.lemmas.Option.{same_Some}
use Rattle.graph_nodes.specs.Graph.{Graph}
use Rattle.partial_path.specs.declared.config.Config.{Config}
use Rattle.partial_path.specs.declared.config.EdgeAt.{EdgeAt}
use Rattle.partial_path.specs.declared.rule.Start.{Start}
use Rattle.partial_path.specs.declared.rule.Start.TheVariants.{After}
use Rattle.stacks_vars.specs.declared.scopes.NodeAt.{NodeAt}
use Rattle.graph_nodes.specs.declared.node.Edge.{Edge}
use Rattle.graph_nodes.specs.declared.node.Place.{Place}
use Rattle.graph_nodes.specs.declared.node.Place.TheVariants as place
use Rattle.partial_path.specs.declared.config.Spot.{Spot}
use Rattle.partial_path.specs.declared.config.Spot.TheVariants as spot
use Rattle.partial_path.proofs.Followed.{followed_by}
use Rattle.partial_path.proofs.CutRuns.{first_of_run}
use Rattle.partial_path.specs.Step.{stands_at, step}
use Rattle.partial_path.specs.Runs.{run}
use Rattle.partial_path.specs.Rules.{Rule}
use Rattle.partial_path.specs.PathSets.{FileRules}
use Rattle.partial_path.specs.Sources.{IsSourceFile, graphs_of}
use Rattle.partial_path.specs.Cutting.{edges_in, path_edges, PathsLead}
use Rattle.partial_path.proofs.Joints.{stored_lands, lead_after, edges_some}
use Rattle.partial_path.proofs.OnlyCuts.{AreSplit, split, zeros_of, same_file, same_path, no_longer}
use Rattle.back_stitch.specs.Cuts.{CutsFromAreUnique}

-- two spots at which a path stands before an edge are one

stands_there : (file n : ℕ) (node : NodeAt) → stands_at file (place.At n) (spot.At node) ≡ true → (node.file ≡ file) × (node.node ≡ n)
stands_there file n node h =
    let both = and_parts (eqb node.file file) (eqb node.node n) h in (eqb-true node.file file both.0, eqb-true node.node n both.1)

same_stand : (file : ℕ) (p : Place) (a b : Spot) → stands_at file p a ≡ true → stands_at file p b ≡ true → a ≡ b
same_stand file place.Root spot.Root spot.Root h k = refl
same_stand file place.Root spot.Root (spot.At b) h k = absurd (false≢true k)
same_stand file place.Root (spot.At a) b h k = absurd (false≢true h)
same_stand file place.Jump a b h k = absurd (false≢true h)
same_stand file (place.At n) spot.Root b h k = absurd (false≢true h)
same_stand file (place.At n) (spot.At a) spot.Root h k = absurd (false≢true k)
same_stand file (place.At n) (spot.At a) (spot.At b) h k =
    let first = stands_there file n a h in let other = stands_there file n b k in
    λ i. spot.At (record { file = (first.0 ∙ sym other.0) i; node = (first.1 ∙ sym other.1) i })

-- where runs of the same edges, not none, begin

same_first : (files : List Graph) (a b next other : Config) (e : EdgeAt) → step files a e ≡ Some next → step files b e ≡ Some other → a.spot ≡ b.spot
same_first files a b next other e h k =
    let x = followed_by files a next e h in
    let y = followed_by files b other e k in
    let same : y.edge ≡ x.edge = same_Some y.edge x.edge (sym y.there ∙ x.there) in
    same_stand e.file x.edge.source a.spot b.spot x.stands (subst (λ (edge : Edge). stands_at e.file edge.source b.spot ≡ true) same y.stands)

same_begin : (files : List Graph) (a b end other : Config) (es : List EdgeAt) → es ≢ [] → run files a es ≡ Some end → run files b es ≡ Some other → a.spot ≡ b.spot
same_begin files a b end other [] some h k = absurd (some refl)
same_begin files a b end other (e ∷ es) some h k =
    let x = first_of_run files es (step files a e) end h in
    let y = first_of_run files es (step files b e) other k in
    same_first files a b x.0 y.0 e x.1 y.1

-- two lists of stored paths with the same start and the same edges are the same

module _ (files : List FileRules) (sources : All IsSourceFile files) where
  same_rest : (a b end other : Config) (paths more : List (ℕ × Rule)) → PathsLead files (After a.spot) a paths end → PathsLead files (After b.spot) b more other
      → path_edges paths ≡ path_edges more → PathsLead files (After a.spot) b more other
  same_rest a b end other paths [] h k e = k
  same_rest a b end other [] (q ∷ more) h k e = absurd (edges_some files q (path_edges more) sources k.0 (sym e))
  same_rest a b end other (p ∷ paths) (q ∷ more) h k e =
      let some : path_edges (p ∷ paths) ≢ [] = edges_some files p (path_edges paths) sources h.0 in
      let here : a.spot ≡ b.spot = same_begin (graphs_of files) a b end other (path_edges (p ∷ paths)) some (lead_after files a end (p ∷ paths) sources h)
      (ap (run (graphs_of files) b) e ∙ lead_after files b other (q ∷ more) sources k) in
      subst (λ (at : Spot). PathsLead files (After at) b (q ∷ more) other) (sym here) k

  cut_same : (s : Start) (c d end other : Config) (paths more : List (ℕ × Rule)) → PathsLead files s c paths end → PathsLead files s d more other
      → path_edges paths ≡ path_edges more → paths ≡ more
  cut_same s c d end other [] [] h k e = refl
  cut_same s c d end other [] (q ∷ more) h k e = absurd (edges_some files q (path_edges more) sources k.0 (sym e))
  cut_same s c d end other (p ∷ paths) [] h k e = absurd (edges_some files p (path_edges paths) sources h.0 e)
  cut_same s c d end other (p ∷ paths) (q ∷ more) (ps, is_p, next, applied, h) (qs, is_q, after, applied_q, k) e =
      by (split (edges_in p) (edges_in q) (path_edges paths) (path_edges more) e) (λ same. cut_same (After next.spot) next after end other paths more h (same_rest next after end other paths more h k same) same)
    where
      by : AreSplit (edges_in p) (edges_in q) (path_edges paths) (path_edges more) → (path_edges paths ≡ path_edges more → paths ≡ more) → p ∷ paths ≡ q ∷ more
      by (inl both) on =
          let file = same_file p.0 q.0 p.1.edges q.1.edges (path_edges paths) (path_edges more) (zeros_of files p sources ps) (zeros_of files q sources qs)
          (stored_lands files p sources ps).lands.walk.nonempty (stored_lands files q sources qs).lands.walk.nonempty e in
          let path = same_path files s p q sources ps qs is_p is_q file both.0 in
          let others = on both.1 in
          λ i. path i ∷ others i
      by (inr (inl longer)) on = absurd (no_longer files s c end p q paths (path_edges more) sources (ps, is_p, next, applied, h) qs longer)
      by (inr (inr longer)) on = absurd (no_longer files s d other q p more (path_edges paths) sources (qs, is_q, after, applied_q, k) ps longer)

pub cuts_from_are_unique : CutsFromAreUnique
cuts_from_are_unique files s c d end other paths more sources h k e = cut_same files sources s c d end other paths more h k e
