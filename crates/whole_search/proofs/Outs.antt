-- Each edge that can be followed from a spot is among those that leave it, and these differ.
use Rattle.std.proofs.Common.{◌≡◌, ℕ, zero, suc, ◌+◌, ◌≤◌, true, List, [], ◌∷◌, Option, Some, None, ◌⊎◌, inl, inr, sym, refl, ap, ◌∙◌, subst, eqb, eqb-true, eq-eqb, arith, slice_get}
use Rattle.std.specs.Option.{option_map_or}
use Rattle.std.proofs.lemmas.Bool.{false≢true, and_parts}
use Rattle.std.proofs.lemmas.Option.{none-some, same_Some, option_and_then_some}
use Rattle.graph_nodes.specs.Graph.{Graph}
use Rattle.graph_nodes.specs.Out.{place_eq, edges_from}
use Rattle.graph_nodes.specs.Whole.{edge_of}
use Rattle.graph_nodes.specs.declared.node.Edge.{Edge}
use Rattle.graph_nodes.specs.declared.node.Place.{Place}
use Rattle.graph_nodes.specs.declared.node.Place.TheVariants as place
use Rattle.partial_path.specs.declared.config.Spot.{Spot}
use Rattle.partial_path.specs.declared.config.Spot.TheVariants.{Root, At}
use Rattle.partial_path.specs.declared.config.Config.{Config}
use Rattle.partial_path.specs.declared.config.EdgeAt.{EdgeAt}
use Rattle.partial_path.specs.Step.{step, follow, stands_at, enter_place}
use Rattle.partial_path.specs.Runs.{IsApart}
use Rattle.whole_search.specs.Walk.{edge_at, out_of_file, out_of_root, out}
use Rattle.partial_path.proofs.Followed.{if_some}
use Rattle.partial_path.proofs.Positions.{IsIn-edges_from, IsApart-edges_from}
use Rattle.list_facts.proofs.Apart.{IsApart-append, IsApart-map}
use Rattle.list_facts.specs.Members.{IsIn}
use Rattle.list_facts.proofs.Members.{IsIn-append_left, IsIn-append_right, IsIn-append_cases, IsIn-map, IsIn-map_from}

-- what an edge that was followed is: its graph, that it leaves where the path stood, and what it entered
pub record Followed (files : List Graph) (at : Config) (e : EdgeAt) (next : Config) : Type 0 where
  pub graph : Graph
  pub edge : Edge
  pub graph_is : slice_get files e.file ≡ Some graph
  pub edge_is : slice_get graph.edges e.edge ≡ Some edge
  pub stands : stands_at e.file edge.source at.spot ≡ true
  pub enters : enter_place files e.file edge.sink at.stacks ≡ Some next

pub followed : (files : List Graph) (at : Config) (e : EdgeAt) (next : Config) → step files at e ≡ Some next → Followed files at e next
followed files at e next h =
    option_and_then_some (λ (edge : Edge). follow files e.file edge at) (edge_of files e.file e.edge) next h
    (λ edge edge_is follows.
    option_and_then_some (λ (g : Graph). slice_get g.edges e.edge) (slice_get files e.file) edge edge_is
    (λ g graph_is there.
    let parts = if_some (stands_at e.file edge.source at.spot) (enter_place files e.file edge.sink at.stacks) next follows in
    record { graph = g; edge = edge; graph_is = graph_is; edge_is = there; stands = parts.0; enters = parts.1 }))

least_of : (n at : ℕ) (P Q : Type 0) → (P → n ≡ at) → (Q → at + 1 ≤ n) → P ⊎ Q → at ≤ n
least_of n at P Q f g (inl p) = let e : n ≡ at = f p in omega arith
least_of n at P Q f g (inr q) = let l : at + 1 ≤ n = g q in omega arith

not_both : (n at : ℕ) → n ≡ at → at + 1 ≤ n → ⊥
not_both n at e l = omega arith

IsIn-out_of_root : (file : ℕ) (files : List Graph) (k : ℕ) (g : Graph) (n : ℕ) → slice_get files k ≡ Some g → IsIn n (edges_from g place.Root) → IsIn (edge_at (file + k) n) (out_of_root file files)
IsIn-out_of_root file [] k g n h there = absurd (none-some g h)
IsIn-out_of_root file (f ∷ files) zero g n h there =
    let e : file ≡ file + 0 = omega arith in
    IsIn-append_left (edge_at (file + 0) n) (out_of_file file place.Root f) (out_of_root (file + 1) files)
    (subst (λ m. IsIn (edge_at m n) (out_of_file file place.Root f)) e
    (IsIn-map (edge_at file) n (edges_from f place.Root)
    (subst (λ (x : Graph). IsIn n (edges_from x place.Root)) (sym (same_Some f g h)) there)))
IsIn-out_of_root file (f ∷ files) (suc k) g n h there =
    let e : (file + 1) + k ≡ file + suc k = omega arith in
    IsIn-append_right (edge_at (file + suc k) n) (out_of_file file place.Root f) (out_of_root (file + 1) files)
    (subst (λ m. IsIn (edge_at m n) (out_of_root (file + 1) files)) e
    (IsIn-out_of_root (file + 1) files k g n h there))

file_of : (file : ℕ) (at : Place) (g : Graph) (e : EdgeAt) → IsIn e (out_of_file file at g) → e.file ≡ file
file_of file at g e h = let r = IsIn-map_from (edge_at file) e (edges_from g at) h in λ i. (sym r.2 i).file

out_of_root_least : (file : ℕ) (files : List Graph) (e : EdgeAt) → IsIn e (out_of_root file files) → file ≤ e.file
out_of_root_least file [] e h = absurd h
out_of_root_least file (f ∷ files) e h =
    least_of e.file file (IsIn e (out_of_file file place.Root f)) (IsIn e (out_of_root (file + 1) files))
    (file_of file place.Root f e) (λ g. out_of_root_least (file + 1) files e g)
    (IsIn-append_cases e (out_of_file file place.Root f) (out_of_root (file + 1) files) h)

IsApart-out_of_file : (file : ℕ) (at : Place) (g : Graph) → IsApart (out_of_file file at g)
IsApart-out_of_file file at g =
    IsApart-map (edge_at file) (λ a b e i. (e i).edge) (edges_from g at)
    (IsApart-edges_from g at)

IsApart-out_of_root : (file : ℕ) (files : List Graph) → IsApart (out_of_root file files)
IsApart-out_of_root file [] = tt
IsApart-out_of_root file (g ∷ files) =
    IsApart-append (out_of_file file place.Root g) (out_of_root (file + 1) files)
    (IsApart-out_of_file file place.Root g) (IsApart-out_of_root (file + 1) files)
    (λ e h there. not_both e.file file (file_of file place.Root g e h) (out_of_root_least (file + 1) files e there))

apart_out_of : (file : ℕ) (at : Place) (o : Option Graph) → IsApart (option_map_or (out_of_file file at) o [])
apart_out_of file at None = tt
apart_out_of file at (Some g) = IsApart-out_of_file file at g

-- the edges that leave a spot differ
pub IsApart-out : (files : List Graph) (spot : Spot) → IsApart (out files spot)
IsApart-out files Root = IsApart-out_of_root 0 files
IsApart-out files (At node) = apart_out_of node.file (place.At node.node) (slice_get files node.file)

in_out_from : (files : List Graph) (e : EdgeAt) (g : Graph) (edge : Edge) → slice_get files e.file ≡ Some g → slice_get g.edges e.edge ≡ Some edge → (source : Place) (spot : Spot) → edge.source ≡ source → stands_at e.file source spot ≡ true → IsIn e (out files spot)
in_out_from files e g edge h k place.Root Root is t =
    let zero_more : 0 + e.file ≡ e.file = omega arith in
    subst (λ f. IsIn (edge_at f e.edge) (out_of_root 0 files)) zero_more
    (IsIn-out_of_root 0 files e.file g e.edge h
    (IsIn-edges_from g place.Root e.edge edge k (ap (λ (p : Place). place_eq p place.Root) is)))
in_out_from files e g edge h k place.Root (At node) is t = absurd (false≢true t)
in_out_from files e g edge h k place.Jump spot is t = absurd (false≢true t)
in_out_from files e g edge h k (place.At n) Root is t = absurd (false≢true t)
in_out_from files e g edge h k (place.At n) (At node) is t =
    let parts = and_parts (eqb node.file e.file) (eqb node.node n) t in
    let same_file : node.file ≡ e.file = eqb-true node.file e.file parts.0 in
    let same_node : node.node ≡ n = eqb-true node.node n parts.1 in
    subst (λ f. IsIn e (option_map_or (out_of_file f (place.At node.node)) (slice_get files f) [])) (sym same_file)
    (subst (λ (o : Option Graph). IsIn e (option_map_or (out_of_file e.file (place.At node.node)) o [])) (sym h)
    (IsIn-map (edge_at e.file) e.edge (edges_from g (place.At node.node))
    (IsIn-edges_from g (place.At node.node) e.edge edge k
    (ap (λ (p : Place). place_eq p (place.At node.node)) is ∙ eq-eqb n node.node (sym same_node)))))

-- an edge that can be followed from a spot leaves it
pub IsIn-out : (files : List Graph) (at next : Config) (e : EdgeAt) → step files at e ≡ Some next → IsIn e (out files at.spot)
IsIn-out files at next e h =
    let f = followed files at e next h in
    in_out_from files e f.graph f.edge f.graph_is f.edge_is f.edge.source at.spot refl f.stands
