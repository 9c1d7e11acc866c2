-- Edges and starts moved to a file's place and taken back, and where paths are cut and land there.
use Rattle.std.proofs.Common.{◌≡◌, refl, sym, ap, ◌∙◌, ℕ, ◌+◌, List, [], ◌∷◌, ◌++◌, map, false, Option, Some, None, arith}
use Rattle.std.specs.Prelude.{◌||◌, slice_get}
use Rattle.std.specs.Option.{option_and_then, option_map_or}
use Rattle.std.specs.List.{AllByRecursion}
use Rattle.graph_nodes.specs.declared.node.Edge.{Edge}
use Rattle.graph_nodes.specs.declared.node.Place.{Place}
use Rattle.graph_nodes.specs.declared.node.Place.TheVariants as place
use Rattle.graph_nodes.specs.Graph.{Graph, is_definition}
use Rattle.graph_nodes.specs.Cut.{is_cut}
use Rattle.stacks_vars.specs.declared.scopes.NodeAt.{NodeAt}
use Rattle.partial_path.specs.declared.config.Spot.TheVariants as spot
use Rattle.partial_path.specs.declared.config.EdgeAt.{EdgeAt}
use Rattle.partial_path.specs.declared.rule.Start.{Start}
use Rattle.partial_path.specs.declared.rule.Start.TheVariants.{Before, After}
use Rattle.partial_path.specs.Spots.{node_at}
use Rattle.partial_path.specs.Step.{is_cut_edge}
use Rattle.partial_path.specs.Walks.{alone, IsUncut, lands_after, ends_landing, is_definition_place}
use Rattle.partial_path.specs.Moved.{moved_edge, moved_start}
use Rattle.partial_path.specs.FileNumbers.{EdgeIn, StartIn}
use Rattle.partial_path.specs.Inside.{start_inside}
use Rattle.partial_path.proofs.Swaps.{IsZero}

-- the edge by its file alone
abbrev pub edge_inside : EdgeAt → EdgeAt
edge_inside e = record { file = 0; edge = e.edge }

edge_back : (k : ℕ) (e : EdgeAt) → EdgeIn IsZero e → edge_inside (moved_edge k e) ≡ e
edge_back k e zero = let back = sym zero in λ i. record { file = back i; edge = e.edge }

pub edges_back : (k : ℕ) (es : List EdgeAt) → AllByRecursion (EdgeIn IsZero) es → map edge_inside (map (moved_edge k) es) ≡ es
edges_back k [] zeros = refl
edges_back k (e ∷ es) zeros = λ i. edge_back k e zeros.0 i ∷ edges_back k es zeros.1 i

node_back : (node : NodeAt) → node.file ≡ 0 → node_at 0 node.node ≡ node
node_back node zero = let back = sym zero in λ i. record { file = back i; node = node.node }

pub start_back : (k : ℕ) (s : Start) → StartIn IsZero s → start_inside (moved_start k s) ≡ s
start_back k (Before node) zero = ap Before (node_back node zero)
start_back k (After spot.Root) zero = refl
start_back k (After (spot.At node)) zero = ap (λ (n : NodeAt). After (spot.At n)) (node_back node zero)

-- the other way round, for edges and starts of that file

-- an edge, a start of the file with that number
abbrev pub IsFile : ℕ → ℕ → Type 0
IsFile k file = file ≡ k

pub edges_there : (k : ℕ) (es : List EdgeAt) → AllByRecursion (EdgeIn (IsFile k)) es → map (moved_edge k) (map edge_inside es) ≡ es
edges_there k [] files = refl
edges_there k (e ∷ es) files =
    let sum : k + 0 ≡ e.file = omega (arith, files.0) in
    λ i. record { file = sum i; edge = e.edge } ∷ edges_there k es files.1 i

node_there : (k : ℕ) (node : NodeAt) → node.file ≡ k → node_at (k + 0) node.node ≡ node
node_there k node file = let sum : k + 0 ≡ node.file = omega (arith, file) in λ i. record { file = sum i; node = node.node }

pub start_there : (k : ℕ) (s : Start) → StartIn (IsFile k) s → moved_start k (start_inside s) ≡ s
start_there k (Before node) file = ap Before (node_there k node file)
start_there k (After spot.Root) file = refl
start_there k (After (spot.At node)) file = ap (λ (n : NodeAt). After (spot.At n)) (node_there k node file)

pub edges_zero : (es : List EdgeAt) → AllByRecursion (EdgeIn IsZero) (map edge_inside es)
edges_zero [] = tt
edges_zero (e ∷ es) = (refl, edges_zero es)

pub start_zero : (s : Start) → StartIn IsZero (start_inside s)
start_zero (Before node) = refl
start_zero (After spot.Root) = tt
start_zero (After (spot.At node)) = refl

-- where paths are cut and land, in the files and in the file alone

cut_at : (files : List Graph) (file k : ℕ) (g : Graph) → slice_get files file ≡ Some g
    → is_cut_edge files (record { file = file; edge = k }) ≡ option_map_or (λ (edge : Edge). is_cut g edge.sink) (slice_get g.edges k) false
cut_at files file k g there =
    λ i. option_map_or (λ (edge : Edge). option_map_or (λ (g : Graph). is_cut g edge.sink) (there i) false) (option_and_then (λ (g : Graph). slice_get g.edges k) (there i)) false

definition_at : (files : List Graph) (file : ℕ) (g : Graph) (p : Place) → slice_get files file ≡ Some g → is_definition_place files file p ≡ is_definition_place (alone g) 0 p
definition_at files file g place.Root there = refl
definition_at files file g place.Jump there = refl
definition_at files file g (place.At n) there = ap (λ o. option_map_or (λ (g : Graph). is_definition g.nodes n) o false) there

found_definition : (files : List Graph) (file : ℕ) (g : Graph) (o : Option Edge) → slice_get files file ≡ Some g
    → option_map_or (λ (edge : Edge). is_definition_place files file edge.sink) o false ≡ option_map_or (λ (edge : Edge). is_definition_place (alone g) 0 edge.sink) o false
found_definition files file g None there = refl
found_definition files file g (Some edge) there = definition_at files file g edge.sink there

lands_at : (files : List Graph) (file k : ℕ) (g : Graph) → slice_get files file ≡ Some g
    → lands_after files (record { file = file; edge = k }) ≡ lands_after (alone g) (record { file = 0; edge = k })
lands_at files file k g there =
    let sinks = ap (λ o. option_map_or (λ (edge : Edge). is_definition_place files file edge.sink) (option_and_then (λ (g : Graph). slice_get g.edges k) o) false) there
    ∙ found_definition files file g (slice_get g.edges k) there in
    λ i. cut_at files file k g there i || sinks i

-- the file is at its edge's number, moved
edge_file : (files : List Graph) (k : ℕ) (g : Graph) (e : EdgeAt) → slice_get files k ≡ Some g → EdgeIn IsZero e → slice_get files (k + e.file) ≡ Some g
edge_file files k g e there zero = let sum : k + e.file ≡ k = omega (arith, zero) in ap (slice_get files) sum ∙ there

pub cut_moved : (files : List Graph) (k : ℕ) (g : Graph) (e : EdgeAt) → slice_get files k ≡ Some g → EdgeIn IsZero e → is_cut_edge files (moved_edge k e) ≡ is_cut_edge (alone g) e
cut_moved files k g e there zero =
    cut_at files (k + e.file) e.edge g (edge_file files k g e there zero) ∙ sym (cut_at (alone g) e.file e.edge g (ap (slice_get (alone g)) zero))

lands_moved : (files : List Graph) (k : ℕ) (g : Graph) (e : EdgeAt) → slice_get files k ≡ Some g → EdgeIn IsZero e → lands_after files (moved_edge k e) ≡ lands_after (alone g) e
lands_moved files k g e there zero =
    lands_at files (k + e.file) e.edge g (edge_file files k g e there zero) ∙ sym (lands_at (alone g) e.file e.edge g (ap (slice_get (alone g)) zero))

pub uncut_moved : (files : List Graph) (k : ℕ) (g : Graph) (es : List EdgeAt) → slice_get files k ≡ Some g → AllByRecursion (EdgeIn IsZero) es
    → IsUncut (alone g) es → IsUncut files (map (moved_edge k) es)
uncut_moved files k g [] there zeros h = tt
uncut_moved files k g (e ∷ []) there zeros h = tt
uncut_moved files k g (e ∷ d ∷ es) there zeros h = (cut_moved files k g e there zeros.0 ∙ h.0, uncut_moved files k g (d ∷ es) there zeros.1 h.1)

pub uncut_alone : (files : List Graph) (k : ℕ) (g : Graph) (es : List EdgeAt) → slice_get files k ≡ Some g → AllByRecursion (EdgeIn IsZero) es
    → IsUncut files (map (moved_edge k) es) → IsUncut (alone g) es
uncut_alone files k g [] there zeros h = tt
uncut_alone files k g (e ∷ []) there zeros h = tt
uncut_alone files k g (e ∷ d ∷ es) there zeros h = (sym (cut_moved files k g e there zeros.0) ∙ h.0, uncut_alone files k g (d ∷ es) there zeros.1 h.1)

pub landing_alone : (files : List Graph) (k : ℕ) (g : Graph) (es : List EdgeAt) → slice_get files k ≡ Some g → AllByRecursion (EdgeIn IsZero) es
    → ends_landing (alone g) es ≡ ends_landing files (map (moved_edge k) es)
landing_alone files k g [] there zeros = refl
landing_alone files k g (e ∷ []) there zeros = sym (lands_moved files k g e there zeros.0)
landing_alone files k g (e ∷ d ∷ es) there zeros = landing_alone files k g (d ∷ es) there zeros.1

-- an edge with one behind it is no cut edge
pub inner_uncut : (files : List Graph) (front : List EdgeAt) (last z : EdgeAt) (zs : List EdgeAt) → IsUncut files ((front ++ last ∷ []) ++ z ∷ zs) → is_cut_edge files last ≡ false
inner_uncut files [] last z zs h = h.0
inner_uncut files (x ∷ []) last z zs h = inner_uncut files [] last z zs h.1
inner_uncut files (x ∷ y ∷ front) last z zs h = inner_uncut files (y ∷ front) last z zs h.1
