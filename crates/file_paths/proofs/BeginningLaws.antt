-- The paths of one edge from after a cut place are those of the edges that leave it.
use Rattle.std.proofs.Common.{◌≡◌, ◌<◌, ℕ, List, [], ◌∷◌, ◌++◌, length, Some, IfSome, IsTrue, Contains, refl, sym, ◌∙◌, subst, Bool, true, false}
use Rattle.std.proofs.lemmas.Bool.{false≢true}
use Rattle.graph_nodes.specs.Graph.{Graph, is_reference}
use Rattle.graph_nodes.specs.Checked.{IsChecked, is_jump}
use Rattle.graph_nodes.specs.Cut.{is_cut}
use Rattle.graph_nodes.specs.Out.{edges_from}
use Rattle.graph_nodes.specs.declared.node.Place.{Place}
use Rattle.graph_nodes.specs.declared.node.Place.TheVariants as place
use Rattle.partial_path.specs.declared.config.Spot.{Spot}
use Rattle.partial_path.specs.declared.config.Spot.TheVariants as spot
use Rattle.partial_path.specs.declared.rule.Start.{Start}
use Rattle.partial_path.specs.declared.rule.Start.TheVariants.{After}
use Rattle.partial_path.specs.Spots.{node_at}
use Rattle.partial_path.specs.Rules.{Rule}
use Rattle.partial_path.specs.Walks.{is_cut_spot, IsWalk, walk_of}
use Rattle.partial_path.specs.PathSets.{IsRuleOf, walk_of_rule}
use Rattle.path_join.specs.Units.{after_source, edge_alone, place_spot}
use Rattle.file_paths.specs.Walking.{no_edges}
use Rattle.file_paths.specs.Finding.{GoesOnFrom, IsLongerRule, AddsLonger, AddsFirst, before_node, after_node}
use Rattle.file_paths.proofs.UnitLaws.{IsSpotOf}
use Rattle.file_paths.proofs.EdgesLaws.{Leaves-from}
use Rattle.file_paths.proofs.SourceLaws.{source_unit}
use Rattle.file_paths.proofs.PassableLaws.{unit_walk}
use Rattle.file_paths.proofs.SinkLaws.{reference_leaves, cut_leaves}
use Rattle.file_paths.proofs.GrowingLaws.{IsAdding, growing_in, adding_begins, adding_there, adding_more, adding_ends}
use Rattle.file_paths.proofs.FirstLaws.{start_walk}

-- to these rules were added those of one edge from a place's spot so far, and these edges are left
pub record AreUnits (g : Graph) (from : Place) (left : List ℕ) (old : List Rule) (now : List Rule) : Type 0 where
  pub adding : (s : Spot) → IsSpotOf from s → IsAdding g (no_edges (After s)) from left old now

-- by cases of the place's spot
at_spot : (from : Place) (P : Spot → Type 0) → ((s : Spot) → IsSpotOf from s → P s) → IfSome (place_spot from) P
at_spot place.Root P h = h spot.Root refl
at_spot place.Jump P h = tt
at_spot (place.At n) P h = h (spot.At (node_at 0 n)) refl

has_spot : (from : Place) → is_jump from ≡ false → (s : Spot) × IsSpotOf from s
has_spot place.Root f = (spot.Root, refl)
has_spot place.Jump f = absurd (false≢true (sym f))
has_spot (place.At n) f = (spot.At (node_at 0 n), refl)

cut_spot : (g : Graph) (from : Place) (s : Spot) → is_cut g from ≡ true → IsSpotOf from s → IsTrue (is_cut_spot g s)
cut_spot g place.Root s cut is = subst (λ (x : Spot). IsTrue (is_cut_spot g x)) (sym is) refl
cut_spot g place.Jump s cut is = absurd is
cut_spot g (place.At n) s cut is = subst (λ (x : Spot). IsTrue (is_cut_spot g x)) (sym is) cut

unit_longer : (g : Graph) (from : Place) (s : Spot) (i : ℕ) (u : Rule) → IsChecked g → is_cut g from ≡ true → IsSpotOf from s → Contains (edges_from g from) i
    → after_source g i ≡ Some u.start → u.edges ≡ edge_alone i ∷ [] → IsRuleOf g u → IsLongerRule g (no_edges (After s)) i u
unit_longer g from s i u checked cut is there starts has exact =
    let leaves = Leaves-from g from s i is there in
    let unit = source_unit place_spot refl refl (λ n. refl) g i s u leaves starts has exact in
    record {
      same = λ n. walk_of (unit.start n) (unit.edges n);
      walk = subst (λ w. IsWalk g w.start w.edges) (sym (λ n. walk_of (unit.start n) (unit.edges n))) (unit_walk g i s checked leaves (cut_spot g from s cut is));
      exact = exact;
    }

pub units_begin : (g : Graph) (from : Place) (left : List ℕ) (old : List Rule) → left ≡ edges_from g from → AreUnits g from left old old
units_begin g from left old is = record { adding = λ s at_place. adding_begins g (no_edges (After s)) from left old is }

pub units_there : (g : Graph) (from : Place) (left rest : List ℕ) (i : ℕ) (old now : List Rule) → is_jump from ≡ false → AreUnits g from left old now
    → left ≡ i ∷ rest → i < length g.edges
units_there g from left rest i old now f h is =
    let k = has_spot from f in adding_there g (no_edges (After k.0)) from left rest i old now (h.adding k.0 k.1) is

pub units_more : (g : Graph) (from : Place) (left rest : List ℕ) (i : ℕ) (old now new : List Rule) (u : Rule) → IsChecked g → is_cut g from ≡ true
    → AreUnits g from left old now → left ≡ i ∷ rest → after_source g i ≡ Some u.start → u.edges ≡ edge_alone i ∷ [] → IsRuleOf g u → new ≡ now ++ u ∷ []
    → AreUnits g from rest old new
units_more g from left rest i old now new u checked cut h is starts has exact pushed = record {
  adding = λ s at_place.
      let so = h.adding s at_place in
      adding_more g (no_edges (After s)) from left rest i old now new u so is
      (unit_longer g from s i u checked cut at_place (growing_in g (no_edges (After s)) from left rest i so.longer so.growing is) starts has exact) pushed;
}

pub units_end : (g : Graph) (from : Place) (left : List ℕ) (old now : List Rule) → AreUnits g from left old now → left ≡ []
    → IfSome (place_spot from) (λ s. AddsLonger g (no_edges (After s)) old now)
units_end g from left old now h is =
    at_spot from (λ s. AddsLonger g (no_edges (After s)) old now)
    (λ s at_place. adding_ends g (no_edges (After s)) from left old now (h.adding s at_place) is (λ e walk. cut_leaves g from s e at_place walk))

-- a path without edges goes on from the reference
pub opened_goes_on : (g : Graph) (n : ℕ) (p : Rule) → p.start ≡ before_node n → p.edges ≡ [] → GoesOnFrom g (walk_of_rule p) (place.At n)
opened_goes_on g n p starts none =
    subst (λ w. GoesOnFrom g w (place.At n)) (sym (start_walk p (before_node n) starts none)) (λ e walk. reference_leaves g n e walk)

-- rules of one edge from a start that there isn't, from a reference and from a cut node
pub begun_none : (g : Graph) (b : Bool) (start : Start) (first : List Rule) → b ≡ false → AddsFirst g b start first first
begun_none g b start first is = record { some = λ t. absurd (false≢true (sym is ∙ t)); none = λ f. refl }

pub begun_some : (g : Graph) (b : Bool) (start : Start) (first now : List Rule) → b ≡ true → AddsLonger g (no_edges start) first now
    → AddsFirst g b start first now
begun_some g b start first now is more = record { some = λ t. more; none = λ f. absurd (false≢true (sym f ∙ is)) }

pub begun_reference : (g : Graph) (n : ℕ) (first now : List Rule) (p : Rule) → is_reference g.nodes n ≡ true
    → p.start ≡ before_node n → p.edges ≡ [] → AddsLonger g (walk_of_rule p) first now
    → AddsFirst g (is_reference g.nodes n) (before_node n) first now
begun_reference g n first now p is starts none more =
    begun_some g (is_reference g.nodes n) (before_node n) first now is
    (subst (λ w. AddsLonger g w first now) (start_walk p (before_node n) starts none) more)

pub begun_cut : (g : Graph) (n : ℕ) (first now : List Rule) → is_cut g (place.At n) ≡ true
    → IfSome (place_spot (place.At n)) (λ s. AddsLonger g (no_edges (After s)) first now)
    → AddsFirst g (is_cut g (place.At n)) (after_node n) first now
begun_cut g n first now is more = begun_some g (is_cut g (place.At n)) (after_node n) first now is more
