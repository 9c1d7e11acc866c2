-- Which edges a walk can go on with: those that leave the spot where the walk before them ends.
use Rattle.std.proofs.Common.{◌≡◌, ℕ, zero, suc, List, [], ◌∷◌, ◌++◌, Option, Some, None, IsSome, refl, sym, ap, ◌∙◌, subst, if◌then◌else◌, Bool, true, false, slice_get, eqb, eqb-true}
use Rattle.std.specs.Option.{option_and_then}
use Rattle.std.proofs.lemmas.Option.{none-some, same_Some, option_and_then_some}
use Rattle.std.proofs.lemmas.Bool.{false≢true, and_parts}
use Rattle.stacks_vars.specs.declared.scopes.NodeAt.{NodeAt}
use Rattle.graph_nodes.specs.Graph.{Graph}
use Rattle.graph_nodes.specs.Whole.{edge_of}
use Rattle.graph_nodes.specs.declared.node.Edge.{Edge}
use Rattle.graph_nodes.specs.declared.node.Place.{Place}
use Rattle.graph_nodes.specs.declared.node.Place.TheVariants as place
use Rattle.partial_path.specs.declared.config.Spot.{Spot}
use Rattle.partial_path.specs.declared.config.Spot.TheVariants as spot
use Rattle.partial_path.specs.declared.config.Config.{Config}
use Rattle.partial_path.specs.declared.config.EdgeAt.{EdgeAt}
use Rattle.partial_path.specs.declared.rule.Start.{Start}
use Rattle.partial_path.specs.declared.rule.Start.TheVariants.{After}
use Rattle.partial_path.specs.Spots.{node_at}
use Rattle.partial_path.specs.Same.{spot_eq}
use Rattle.partial_path.specs.Step.{step, follow, stands_at, enter_place}
use Rattle.partial_path.specs.Runs.{run}
use Rattle.partial_path.specs.Walks.{alone, run_from, IsWalk}
use Rattle.partial_path.proofs.Followed.{if_some}
use Rattle.partial_path.proofs.RunsOn.{run_from-append, run_one}
use Rattle.file_paths.proofs.UnitLaws.{edge_in, IsSpotOf, Leaves}

-- an edge of the file alone
in_alone : (g : Graph) (file k : ℕ) (edge : Edge) → edge_of (alone g) file k ≡ Some edge → (file ≡ 0) × (slice_get g.edges k ≡ Some edge)
in_alone g zero k edge h = (refl, h)
in_alone g (suc n) k edge h = absurd (none-some edge h)

node_same : (a : NodeAt) (n : ℕ) → a.file ≡ 0 → a.node ≡ n → spot.At a ≡ spot.At (node_at 0 n)
node_same a n h k = λ i. spot.At (record { file = h i; node = k i })

-- where a path stands at the place, its spot is there
stands_there : (p : Place) (s : Spot) → stands_at 0 p s ≡ true → IsSpotOf p s
stands_there place.Root spot.Root t = refl
stands_there place.Root (spot.At a) t = absurd (false≢true t)
stands_there place.Jump s t = absurd (false≢true t)
stands_there (place.At n) spot.Root t = absurd (false≢true t)
stands_there (place.At n) (spot.At a) t =
    let parts = and_parts (eqb a.file 0) (eqb a.node n) t in
    node_same a n (eqb-true a.file 0 parts.0) (eqb-true a.node n parts.1)

-- an edge of the file, that leaves the spot
abbrev pub LeavesBy : Graph → Spot → EdgeAt → Type 0
LeavesBy g s e = (i : ℕ) × (e ≡ edge_in i) × Leaves g i s

pub step_leaves : (g : Graph) (d next : Config) (e : EdgeAt) → step (alone g) d e ≡ Some next → LeavesBy g d.spot e
step_leaves g d next e h =
    option_and_then_some (λ (edge : Edge). follow (alone g) e.file edge d) (edge_of (alone g) e.file e.edge) next h
    (λ edge there follows.
    let in_file = in_alone g e.file e.edge edge there in
    let stands = if_some (stands_at e.file edge.source d.spot) (enter_place (alone g) e.file edge.sink d.stacks) next follows in (
      e.edge,
      (λ i. record { file = in_file.0 i; edge = e.edge }),
      record {
        edge = edge;
        there = in_file.1;
        source = stands_there edge.source d.spot (subst (λ (file : ℕ). stands_at file edge.source d.spot ≡ true) in_file.0 stands.0);
      },
    ))

made_of : (o : Option Config) → IsSome o → (d : Config) × (o ≡ Some d)
made_of None h = cc
made_of (Some d) h = (d, refl)

goes_over : (files : List Graph) (e : EdgeAt) (o : Option Config) → IsSome (option_and_then (λ (d : Config). run files d (e ∷ [])) o)
    → (d : Config) × (o ≡ Some d) × IsSome (step files d e)
goes_over files e None h = cc
goes_over files e (Some d) h = (d, refl, subst (λ (o : Option Config). IsSome o) (run_one files d e) h)

-- a walk goes on with an edge that leaves a spot where its front ends
pub walk_leaves : (g : Graph) (start : Start) (es : List EdgeAt) (e : EdgeAt) → IsWalk g start (es ++ e ∷ [])
    → (c d : Config) × (run_from (alone g) start es c ≡ Some d) × LeavesBy g d.spot e
walk_leaves g start es e walk =
    let c = walk.runs.0 in
    let over = goes_over (alone g) e (run_from (alone g) start es c)
    (subst (λ (o : Option Config). IsSome o) (run_from-append (alone g) start es (e ∷ []) c) walk.runs.1) in
    let next = made_of (step (alone g) over.0 e) over.2 in
    (c, over.0, over.1, step_leaves g over.0 next.0 e next.1)

begun_at : (b : Bool) (c d : Config) → option_and_then (λ (first : Config). Some first) (if b then Some c else None) ≡ Some d → (b ≡ true) × (c ≡ d)
begun_at true c d h = (refl, same_Some c d h)
begun_at false c d h = absurd (none-some d h)

spot_same : (a b : Spot) → spot_eq a b ≡ true → b ≡ a
spot_same spot.Root spot.Root t = refl
spot_same spot.Root (spot.At b) t = absurd (false≢true t)
spot_same (spot.At a) spot.Root t = absurd (false≢true t)
spot_same (spot.At a) (spot.At b) t =
    let parts = and_parts (eqb a.file b.file) (eqb a.node b.node) t in
    λ i. spot.At (record { file = sym (eqb-true a.file b.file parts.0) i; node = sym (eqb-true a.node b.node parts.1) i })

-- and the walks of one edge after a spot with edges that leave it
pub first_leaves : (g : Graph) (s : Spot) (e : EdgeAt) → IsWalk g (After s) (e ∷ []) → LeavesBy g s e
first_leaves g s e walk =
    let at = walk_leaves g (After s) [] e walk in
    let begun = begun_at (spot_eq s at.0.spot) at.0 at.1 at.2 in
    subst (λ (x : Spot). LeavesBy g x e) (ap (λ (x : Config). x.spot) (sym begun.1) ∙ spot_same s at.0.spot begun.0) at.3
