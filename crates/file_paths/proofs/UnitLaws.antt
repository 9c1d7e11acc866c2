-- The rule of one edge of a file: from after the edge's source it does what following the edge does.
use Rattle.std.proofs.Common.{◌≡◌, ℕ, max, List, [], ◌∷◌, length, Option, Some, None, IsSome, refl, sym, ap, ◌∙◌, subst, arith, if◌then◌else◌, Bool, true, false, nat_eq, ◌&&◌, slice_get}
use Rattle.std.specs.Option.{option_and_then, option_map_or}
use Rattle.std.proofs.lemmas.Option.{none-some, same_Some}
use Rattle.std.proofs.lemmas.Bool.Decides.{nat_tests}
use Rattle.stacks_vars.specs.declared.scopes.NodeAt.{NodeAt}
use Rattle.graph_nodes.specs.Graph.{Graph}
use Rattle.graph_nodes.specs.declared.node.Edge.{Edge}
use Rattle.graph_nodes.specs.declared.node.Place.{Place}
use Rattle.graph_nodes.specs.declared.node.Place.TheVariants as place
use Rattle.partial_path.specs.declared.config.Spot.{Spot}
use Rattle.partial_path.specs.declared.config.Spot.TheVariants as spot
use Rattle.partial_path.specs.declared.config.Config.{Config}
use Rattle.partial_path.specs.declared.config.EdgeAt.{EdgeAt}
use Rattle.partial_path.specs.declared.rule.Start.{Start}
use Rattle.partial_path.specs.declared.rule.Start.TheVariants.{After}
use Rattle.partial_path.specs.Spots.{node_at}
use Rattle.partial_path.specs.Same.{spot_eq}
use Rattle.partial_path.specs.Step.{step, follow, stands_at, enter_place}
use Rattle.partial_path.specs.Runs.{run}
use Rattle.partial_path.specs.Rules.{Rule}
use Rattle.partial_path.specs.Apply.{apply, height}
use Rattle.partial_path.specs.Walks.{alone, run_from, highest, highest_from}
use Rattle.partial_path.specs.PathSets.{IsRuleOf}
use Rattle.path_join.specs.Units.{edge_alone}
use Rattle.partial_path.proofs.RunsOn.{run_one}

-- the edge of the file alone
abbrev pub edge_in : ℕ → EdgeAt
edge_in i = edge_alone i

-- the spot is at that place of the file alone; no path stands at the jump
abbrev pub IsSpotOf : Place → Spot → Type 0
IsSpotOf place.Root s = s ≡ spot.Root
IsSpotOf place.Jump s = ⊥
IsSpotOf (place.At n) s = s ≡ spot.At (node_at 0 n)

-- the file's edge is this one, and leaves that spot
pub record Leaves (g : Graph) (i : ℕ) (s : Spot) : Type 0 where
  pub edge : Edge
  pub there : slice_get g.edges i ≡ Some edge
  pub source : IsSpotOf edge.source s

same_file : (n : ℕ) (a : NodeAt) → (nat_eq a.file 0 && nat_eq a.node n) ≡ (nat_eq 0 a.file && nat_eq n a.node)
same_file n a = grind (arith, nat_tests)

stands : (p : Place) (s at : Spot) → IsSpotOf p s → stands_at 0 p at ≡ spot_eq s at
stands place.Root s spot.Root is = ap (λ (x : Spot). spot_eq x spot.Root) (sym is)
stands place.Root s (spot.At a) is = ap (λ (x : Spot). spot_eq x (spot.At a)) (sym is)
stands place.Jump s at is = absurd is
stands (place.At n) s spot.Root is = ap (λ (x : Spot). spot_eq x spot.Root) (sym is)
stands (place.At n) s (spot.At a) is = same_file n a ∙ ap (λ (x : Spot). spot_eq x (spot.At a)) (sym is)

follows : (g : Graph) (i : ℕ) (edge : Edge) (d : Config) (o : Option Edge) → o ≡ Some edge
    → option_and_then (λ (x : Edge). follow (alone g) 0 x d) o ≡ follow (alone g) 0 edge d
follows g i edge d None h = absurd (none-some edge h)
follows g i edge d (Some x) h = ap (λ (y : Edge). follow (alone g) 0 y d) (same_Some x edge h)

-- the edge is followed exactly where the path stands at its source
pub steps_where : (g : Graph) (i : ℕ) (s : Spot) (leaves : Leaves g i s) (d : Config)
    → step (alone g) d (edge_in i) ≡ (if spot_eq s d.spot then enter_place (alone g) 0 leaves.edge.sink d.stacks else None)
steps_where g i s leaves d =
    follows g i leaves.edge d (slice_get g.edges i) leaves.there
    ∙ ap (λ (b : Bool). if b then enter_place (alone g) 0 leaves.edge.sink d.stacks else None) (stands leaves.edge.source s d.spot leaves.source)

begun : (g : Graph) (es : List EdgeAt) (b : Bool) (d : Config) (x o : Option Config) → run (alone g) d es ≡ x → x ≡ (if b then o else None)
    → option_and_then (λ (first : Config). run (alone g) first es) (if b then Some d else None) ≡ x
begun g es true d x o h k = h
begun g es false d x o h k = sym k

pub unit_steps : (g : Graph) (i : ℕ) (s : Spot) → Leaves g i s → (d : Config) → run_from (alone g) (After s) (edge_in i ∷ []) d ≡ step (alone g) d (edge_in i)
unit_steps g i s leaves d =
    begun g (edge_in i ∷ []) (spot_eq s d.spot) d (step (alone g) d (edge_in i)) (enter_place (alone g) 0 leaves.edge.sink d.stacks)
    (run_one (alone g) d (edge_in i)) (steps_where g i s leaves d)

-- the rule is that of the file's edge, from after the spot that it leaves
pub record IsUnitOf (g : Graph) (i : ℕ) (s : Spot) (u : Rule) : Type 0 where
  pub leaves : Leaves g i s
  pub start : u.start ≡ After s
  pub edges : u.edges ≡ edge_in i ∷ []
  pub exact : IsRuleOf g u

-- the rule of a start and edges, where these are said with other words
runs_as : (g : Graph) (u : Rule) (start : Start) (es : List EdgeAt) (d : Config) → u.start ≡ start → u.edges ≡ es
    → run_from (alone g) u.start u.edges d ≡ run_from (alone g) start es d
runs_as g u start es d h k = λ j. run_from (alone g) (h j) (k j) d

pub unit_applies : (g : Graph) (i : ℕ) (s : Spot) (u : Rule) → IsUnitOf g i s u → (d : Config) → apply u d ≡ step (alone g) d (edge_in i)
unit_applies g i s u is d =
    is.exact.applies d ∙ (runs_as g u (After s) (edge_in i ∷ []) d is.start is.edges ∙ unit_steps g i s is.leaves d)

begun_high : (g : Graph) (es : List EdgeAt) (b : Bool) (d : Config)
    → IsSome (option_and_then (λ (first : Config). run (alone g) first es) (if b then Some d else None))
    → option_map_or (λ (first : Config). highest (alone g) first es) (if b then Some d else None) 0 ≡ highest (alone g) d es
begun_high g es true d h = refl
begun_high g es false d h = cc

over : (a b : ℕ) → max a (max a b) ≡ max a b
over a b = omega arith

-- its height is that of following the edge
pub unit_height : (g : Graph) (i : ℕ) (s : Spot) (u : Rule) → IsUnitOf g i s u → (d : Config) → IsSome (apply u d)
    → height u d ≡ highest (alone g) d (edge_in i ∷ [])
unit_height g i s u is d some =
    is.exact.peak d some
    ∙ ((λ j. highest_from (alone g) (is.start j) (is.edges j) d)
    ∙ (ap (λ (n : ℕ). max (length d.stacks.symbols) n) (begun_high g (edge_in i ∷ []) (spot_eq s d.spot) d runs)
    ∙ over (length d.stacks.symbols) (option_map_or (λ (next : Config). highest (alone g) next []) (step (alone g) d (edge_in i)) 0)))
  where
    runs : IsSome (run_from (alone g) (After s) (edge_in i ∷ []) d)
    runs = subst (λ (o : Option Config). IsSome o) (is.exact.applies d ∙ runs_as g u (After s) (edge_in i ∷ []) d is.start is.edges) some
