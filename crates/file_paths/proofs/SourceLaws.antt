-- The rule of an edge that starts after the edge's source.
use Rattle.std.proofs.Common.{◌≡◌, ℕ, [], ◌∷◌, Option, Some, None, refl, sym, ap, ◌∙◌, subst, slice_get}
use Rattle.std.specs.Option.{option_and_then, option_map}
use Rattle.std.proofs.lemmas.Option.{none-some, same_Some, option_and_then_some}
use Rattle.graph_nodes.specs.Graph.{Graph}
use Rattle.graph_nodes.specs.declared.node.Edge.{Edge}
use Rattle.graph_nodes.specs.declared.node.Place.{Place}
use Rattle.graph_nodes.specs.declared.node.Place.TheVariants as place
use Rattle.partial_path.specs.declared.config.Spot.{Spot}
use Rattle.partial_path.specs.declared.config.Spot.TheVariants as spot
use Rattle.partial_path.specs.declared.rule.Start.{Start}
use Rattle.partial_path.specs.declared.rule.Start.TheVariants.{After}
use Rattle.partial_path.specs.Spots.{node_at}
use Rattle.partial_path.specs.Rules.{Rule}
use Rattle.partial_path.specs.PathSets.{IsRuleOf}
use Rattle.file_paths.proofs.UnitLaws.{edge_in, IsSpotOf, Leaves, IsUnitOf}

-- a place has one spot
spot_once : (p : Place) (s t : Spot) → IsSpotOf p s → IsSpotOf p t → s ≡ t
spot_once place.Root s t h k = h ∙ sym k
spot_once place.Jump s t h k = absurd h
spot_once (place.At n) s t h k = h ∙ sym k

-- an edge leaves one spot
pub leaves_once : (g : Graph) (i : ℕ) (s t : Spot) → Leaves g i s → Leaves g i t → s ≡ t
leaves_once g i s t h k =
    spot_once k.edge.source s t (subst (λ (x : Edge). IsSpotOf x.source s) (same_Some h.edge k.edge (sym h.there ∙ k.there)) h.source) k.source

-- for any function that gives the spot at a place of the file alone
module _ (spot_of : Place → Option Spot) (at_root : spot_of place.Root ≡ Some spot.Root) (at_jump : spot_of place.Jump ≡ None)
    (at_node : (n : ℕ) → spot_of (place.At n) ≡ Some (spot.At (node_at 0 n))) where
  given : (p : Place) (s : Spot) → spot_of p ≡ Some s → IsSpotOf p s
  given place.Root s h = sym (same_Some spot.Root s (sym at_root ∙ h))
  given place.Jump s h = none-some s (sym at_jump ∙ h)
  given (place.At n) s h = sym (same_Some (spot.At (node_at 0 n)) s (sym (at_node n) ∙ h))

  start_given : (edge : Edge) (o : Option Spot) (start : Start) → spot_of edge.source ≡ o → option_map After o ≡ Some start
      → (s : Spot) × (start ≡ After s) × IsSpotOf edge.source s
  start_given edge None start is h = absurd (none-some start h)
  start_given edge (Some s) start is h = (s, sym (same_Some (After s) start h), given edge.source s is)

  -- the start after the source of the file's edge is after the spot that the edge leaves
  pub source_leaves : (g : Graph) (i : ℕ) (start : Start) → option_and_then (λ (edge : Edge). option_map After (spot_of edge.source)) (slice_get g.edges i) ≡ Some start
      → (s : Spot) × (start ≡ After s) × Leaves g i s
  source_leaves g i start h =
      option_and_then_some (λ (edge : Edge). option_map After (spot_of edge.source)) (slice_get g.edges i) start h
      (λ edge there is.
      let k = start_given edge (spot_of edge.source) start refl is in
      (k.0, k.1, record { edge = edge; there = there; source = k.2 }))

  -- so a rule of the file with that start and this edge is the edge's rule
  pub source_unit : (g : Graph) (i : ℕ) (s : Spot) (u : Rule) → Leaves g i s
      → option_and_then (λ (edge : Edge). option_map After (spot_of edge.source)) (slice_get g.edges i) ≡ Some u.start
      → u.edges ≡ edge_in i ∷ [] → IsRuleOf g u → IsUnitOf g i s u
  source_unit g i s u leaves starts has exact =
      let k = source_leaves g i u.start starts in
      record {
        leaves = leaves;
        start = k.1 ∙ ap After (leaves_once g i k.0 s k.2 leaves);
        edges = has;
        exact = exact;
      }
