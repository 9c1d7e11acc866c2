-- No edge of a checked graph leaves a place that isn't there.
use Rattle.std.proofs.Common.{◌≡◌, ℕ, ◌+◌, Bool, true, false, List, [], ◌∷◌, ◌++◌, length, sym, refl, ap, ◌∙◌, arith, map, append-nil, All}
use Rattle.std.proofs.lemmas.Bool.{false≢true, and_parts}
use Rattle.std.proofs.lemmas.Bool.Decides.{nat_tests}
use Rattle.std.proofs.lemmas.List.Elements.{All-head, All-tail, All-weaker}
use Rattle.graph_nodes.specs.declared.node.Edge.{Edge}
use Rattle.graph_nodes.specs.declared.node.Place.{Place}
use Rattle.graph_nodes.specs.declared.node.Place.TheVariants.{Root, Jump, At}
use Rattle.graph_nodes.specs.Graph.{Graph, has_place}
use Rattle.graph_nodes.specs.Checked.{IsChecked}
use Rattle.graph_nodes.specs.Out.{place_eq, positions_from, where_passes}
use Rattle.graph_nodes.proofs.Faults.{graph_fault-none}
use Rattle.whole_search.specs.Walk.{edge_at, out_of_file}

positions_from-none : {X : Type 0} (test : X → Bool) (at : ℕ) (xs : List X) → All (λ x. test x ≡ false) xs → positions_from test at xs ≡ []
positions_from-none test at [] h = refl
positions_from-none test at (x ∷ xs) h =
    ap (λ b. where_passes b at ++ positions_from test (at + 1) xs) (All-head (λ y. test y ≡ false) x xs h)
    ∙ positions_from-none test (at + 1) xs (All-tail (λ y. test y ≡ false) x xs h)

place_eq-absent : (count : ℕ) (p q : Place) → has_place count p ≡ true → has_place count q ≡ false → place_eq p q ≡ false
place_eq-absent count p Root t f = absurd (false≢true (sym f))
place_eq-absent count p Jump t f = absurd (false≢true (sym f))
place_eq-absent count Root (At n) t f = refl
place_eq-absent count Jump (At n) t f = refl
place_eq-absent count (At m) (At n) t f = grind (arith, nat_tests)

pub out_of_file-absent : (file : ℕ) (place : Place) (g : Graph) → IsChecked g → has_place (length g.nodes) place ≡ false → out_of_file file place g ≡ []
out_of_file-absent file place g checked f =
    ap (map (edge_at file)) (positions_from-none (λ (e : Edge). place_eq e.source place) 0 g.edges
    (All-weaker _ _ (λ (e : Edge) t. place_eq-absent (length g.nodes) e.source place (and_parts (has_place (length g.nodes) e.source) (has_place (length g.nodes) e.sink) t).0 f)
    g.edges (graph_fault-none g.nodes g.edges checked).ends))

pub with_absent : {X : Type 0} (old more : List X) → more ≡ [] → old ≡ old ++ more
with_absent old more h = sym (ap (λ xs. old ++ xs) h ∙ append-nil old)
