-- References that begin alike have the same definitions: each run from the one is, but for its first edge, one from
-- the other.
use Rattle.std.proofs.Common.{◌≡◌, ◌≢◌, refl, sym, ◌∙◌, ap, subst, ℕ, ◌≤◌, ◌<◌, List, [], ◌∷◌, ◌++◌, map, length, Bool, true, false, if◌then◌else◌, eqb, eqb-true, eq-eqb, Option, Some, None, IsSome, IsSomeAnd, IsTrue, MatchOption, ◌⊎◌, inl, inr, All, slice_get}
use Rattle.std.specs.Prelude.{⊤, nat_lt}
use Rattle.std.specs.List.{AllByRecursion}
use Rattle.std.specs.Option.{option_map, option_and_then, option_map_or}
use Rattle.std.proofs.lemmas.Bool.{false≢true, and_from}
use Rattle.std.proofs.lemmas.List.{length-map}
use Rattle.std.proofs.lemmas.Option.{none-some, same_Some, slice_get_within}
use Rattle.graph_nodes.specs.declared.node.Node.{Node}
use Rattle.graph_nodes.specs.declared.node.NodeKind.{NodeKind}
use Rattle.graph_nodes.specs.declared.node.NodeKind.TheVariants.{Push}
use Rattle.graph_nodes.specs.declared.node.Edge.{Edge}
use Rattle.graph_nodes.specs.declared.node.Place.{Place}
use Rattle.graph_nodes.specs.declared.node.Place.TheVariants as place
use Rattle.graph_nodes.specs.Graph.{Graph, is_reference_kind}
use Rattle.graph_nodes.specs.Cut.{is_cut}
use Rattle.graph_nodes.specs.Out.{place_eq, edges_from}
use Rattle.stacks_vars.specs.declared.scopes.NodeAt.{NodeAt}
use Rattle.stacks_vars.specs.Enter.{enter, item_of, no_stacks, stacks_of}
use Rattle.partial_path.specs.declared.config.Config.{Config}
use Rattle.partial_path.specs.declared.config.EdgeAt.{EdgeAt}
use Rattle.partial_path.specs.declared.config.Spot.TheVariants as spot
use Rattle.partial_path.specs.declared.bounds.Bounds.{Bounds}
use Rattle.partial_path.specs.Spots.{node_at, at_node, is_node}
use Rattle.partial_path.specs.Limits.{max_runs}
use Rattle.partial_path.specs.Sources.{IsSourceFile, graphs_of}
use Rattle.partial_path.specs.PathSets.{FileRules}
use Rattle.partial_path.specs.Step.{action_of, enter_place, stands_at, follow, step, is_cut_edge, start, start_at}
use Rattle.partial_path.specs.Runs.{run, where_cut, after_cuts, IsApart, IsStraight, IsClosed, IsShallow, IsBounded, IsAtDefinition}
use Rattle.partial_path.specs.Counted.{IsComplete, IsCounted, IsBoundedCounted, IsBoundedComplete, IsCrowded, HasLimit}
use Rattle.partial_path.specs.Walks.{is_cut_spot_of}
use Rattle.partial_path.proofs.CutRuns.{all_checked}
use Rattle.partial_path.proofs.Edges.{is_cut_edge-found}
use Rattle.partial_path.proofs.Exported.{AreChecked, HoldScopeNodes, step_scopes, cut_spot}
use Rattle.partial_path.proofs.Followed.{cut_of}
use Rattle.partial_path.proofs.Positions.{leaves_from}
use Rattle.shadowing.specs.Shadow.{shadows}
use Rattle.whole_search.specs.declared.found.Hit.{Hit}
use Rattle.whole_search.specs.Walk.{edge_at, out_of_file, out}
use Rattle.whole_search.specs.Answers.{precedence_of, step_of, path_of, EndsAt, IsUnshadowed, IsDefinitionFrom}
use Rattle.whole_search.proofs.Outs.{IsIn-out}
use Rattle.whole_search.proofs.Prefixes.{first_step}
use Rattle.list_facts.specs.Members.{IsIn}
use Rattle.list_facts.proofs.Apart.{IsApart-map, absent, all_differ}
use Rattle.list_facts.proofs.Each.{all-append, each}
use Rattle.list_facts.proofs.Members.{IsIn-map}
use Rattle.nav_answers.specs.declared.twins.Kept.{Kept}
use Rattle.nav_answers.specs.Asking.{IsFoundFrom, IsFound}
use Rattle.nav_answers.specs.Twins.{BeginsWith, IsKept, IsLead, AreTwins, TwinsAreFoundAlike}
use Rattle.nav_answers.proofs.Alone.{same_itself}

-- From each of two starts one edge alone can be followed, and these lead to the same configuration. Neither start is
-- where a path is cut.
record AreAlike (files : List Graph) (c d : Config) (e f : EdgeAt) : Type 0 where
  only : (x : EdgeAt) (next : Config) → step files c x ≡ Some next → x ≡ e
  only_other : (x : EdgeAt) (next : Config) → step files d x ≡ Some next → x ≡ f
  steps : step files c e ≡ step files d f
  cuts : is_cut_edge files e ≡ is_cut_edge files f
  high : length c.stacks.symbols ≡ length d.stacks.symbols
  apart : (es : List EdgeAt) → AllByRecursion (λ (x : Config). c ≢ x) (after_cuts files c es)
  apart_other : (es : List EdgeAt) → AllByRecursion (λ (x : Config). d ≢ x) (after_cuts files d es)

turned : (files : List Graph) (c d : Config) (e f : EdgeAt) → AreAlike files c d e f → AreAlike files d c f e
turned files c d e f alike = record {
  only = alike.only_other;
  only_other = alike.only;
  steps = sym alike.steps;
  cuts = sym alike.cuts;
  high = sym alike.high;
  apart = alike.apart_other;
  apart_other = alike.apart;
}

-- elements whose images differ differ
apart_before : {X Y : Type 0} (f : X → Y) (xs : List X) → IsApart (map f xs) → IsApart xs
apart_before f [] h = tt
apart_before f (x ∷ xs) h = (all_differ x xs (λ m. absent (f x) (map f xs) h.0 (IsIn-map f x xs m)), apart_before f xs h.1)

some_end : (files : List Graph) (o : Option Config) → IsSomeAnd o (IsAtDefinition files) → IsSome o
some_end files None h = absurd h
some_end files (Some end) h = refl

-- what holds of a run from the one start holds of the run with the other's edge from the other
module _ (files : List Graph) (c d : Config) (e f : EdgeAt) (alike : AreAlike files c d e f) where
  begins : (es : List EdgeAt) → es ≢ [] → IsSome (run files c es) → (rest : List EdgeAt) × (es ≡ e ∷ rest)
  begins [] some h = absurd (some refl)
  begins (x ∷ es) some h = let n = first_step files c x es h in (es, λ i. alike.only x n.0 n.1 i ∷ es)

  same_run : (es : List EdgeAt) → run files c (e ∷ es) ≡ run files d (f ∷ es)
  same_run es = ap (λ (o : Option Config). option_and_then (λ (next : Config). run files next es) o) alike.steps

  same_cuts : (es : List EdgeAt) → after_cuts files c (e ∷ es) ≡ after_cuts files d (f ∷ es)
  same_cuts es = λ i. option_map_or (λ (next : Config). (if alike.cuts i then next ∷ [] else []) ++ after_cuts files next es) (alike.steps i) []

  straight : (es : List EdgeAt) → IsStraight files c (e ∷ es) → IsStraight files d (f ∷ es)
  straight es h = (alike.apart_other (f ∷ es), subst IsApart (same_cuts es) h.1)

  closed : (es : List EdgeAt) → IsClosed files (e ∷ es) → IsClosed files (f ∷ es)
  closed es ([], last, is, cut) =
      let head : last ≡ e = cc in
      let tail : es ≡ [] = cc in
      ([], f, λ i. f ∷ tail i, sym alike.cuts ∙ (ap (is_cut_edge files) (sym head) ∙ cut))
  closed es (x ∷ front, last, is, cut) =
      let tail : es ≡ front ++ last ∷ [] = cc in (f ∷ front, last, λ i. f ∷ tail i, cut)

  shallow : (depth : ℕ) (es : List EdgeAt) → IsShallow depth files c (e ∷ es) → IsShallow depth files d (f ∷ es)
  shallow depth es h = (
    subst (λ n. n ≤ depth) alike.high h.0,
    subst (λ (o : Option Config). MatchOption o ⊤ (λ next. IsShallow depth files next es)) alike.steps h.1,
  )

  bounded : (bounds : Bounds) (es : List EdgeAt) → IsBounded bounds files c (e ∷ es) → IsBounded bounds files d (f ∷ es)
  bounded bounds es h = record { edges = h.edges; depth = shallow bounds.depth es h.depth }

  complete : (es : List EdgeAt) → IsComplete files c (e ∷ es) → IsComplete files d (f ∷ es)
  complete es h = record {
    nonempty = λ z. cc;
    straight = straight es h.straight;
    ends = subst (λ (o : Option Config). IsSomeAnd o (IsAtDefinition files)) (same_run es) h.ends;
  }

  lands : (es : List EdgeAt) → IsClosed files (e ∷ es) ⊎ IsComplete files c (e ∷ es) → IsClosed files (f ∷ es) ⊎ IsComplete files d (f ∷ es)
  lands es (inl h) = inl (closed es h)
  lands es (inr h) = inr (complete es h)

  counted : (es : List EdgeAt) → IsCounted files c (e ∷ es) → IsCounted files d (f ∷ es)
  counted es h = record {
    nonempty = λ z. cc;
    runs = subst (λ (o : Option Config). IsSome o) (same_run es) h.runs;
    straight = straight es h.straight;
    lands = lands es h.lands;
  }

  bounded_counted : (bounds : Bounds) (es : List EdgeAt) → IsBoundedCounted bounds files c (e ∷ es) → IsBoundedCounted bounds files d (f ∷ es)
  bounded_counted bounds es h = record { counted = counted es h.counted; bounded = bounded bounds es h.bounded }

  bounded_complete : (bounds : Bounds) (es : List EdgeAt) → IsBoundedComplete bounds files c (e ∷ es) → IsBoundedComplete bounds files d (f ∷ es)
  bounded_complete bounds es h = record { complete = complete es h.complete; bounded = bounded bounds es h.bounded }

  complete_begins : (bounds : Bounds) (es : List EdgeAt) → IsBoundedComplete bounds files c es → (rest : List EdgeAt) × (es ≡ e ∷ rest)
  complete_begins bounds es h = begins es h.complete.nonempty (some_end files (run files c es) h.complete.ends)

-- one path shadows another by what follows the edge with which both begin
after_first : (files : List Graph) (e : EdgeAt) (xs ys : List EdgeAt) → shadows (path_of files (e ∷ xs)) (path_of files (e ∷ ys)) ≡ shadows (path_of files xs) (path_of files ys)
after_first files e xs ys =
    ap (λ (b : Bool). if b then shadows (path_of files xs) (path_of files ys) else nat_lt (precedence_of files e) (precedence_of files e)) (same_itself (step_of files e))

module _ (bounds : Bounds) (files : List Graph) (c d : Config) (e f : EdgeAt) (alike : AreAlike files c d e f) where
  back : AreAlike files d c f e
  back = turned files c d e f alike

  unshadowed : (es : List EdgeAt) → IsUnshadowed bounds files c (e ∷ es) → IsUnshadowed bounds files d (f ∷ es)
  unshadowed es h = record {
    bounded_complete = bounded_complete files c d e f alike bounds es h.bounded_complete;
    unshadowed = λ others is over.
        let b = complete_begins files d c f e back bounds others is in
        h.unshadowed (e ∷ b.0) (bounded_complete files d c f e back bounds b.0 (subst (IsBoundedComplete bounds files d) b.1 is))
        (after_first files e b.0 es ∙ (sym (after_first files f b.0 es) ∙ (ap (λ (xs : List EdgeAt). shadows (path_of files xs) (path_of files (f ∷ es))) (sym b.1) ∙ over)));
  }

  defined : (hit : Hit) → IsDefinitionFrom bounds files c hit → IsDefinitionFrom bounds files d hit
  defined hit (es, is, ends) =
      let b = complete_begins files c d e f alike bounds es is.bounded_complete in (
        f ∷ b.0,
        unshadowed b.0 (subst (IsUnshadowed bounds files c) b.1 is),
        subst (λ (o : Option Config). IsSomeAnd o (λ end. IsTrue (is_node hit.file hit.node end.spot))) (same_run files c d e f alike b.0)
            (subst (λ (xs : List EdgeAt). EndsAt files c xs hit) b.1 ends),
      )

  limited : HasLimit bounds files c → HasLimit bounds files d
  limited (es, is, out) =
      let b = begins files c d e f alike es is.nonempty is.runs in (
        f ∷ b.0,
        counted files c d e f alike b.0 (subst (IsCounted files c) b.1 is),
        λ within. out (subst (IsBounded bounds files c) (sym b.1) (bounded files d c f e back bounds b.0 within)),
      )

  crowded : IsCrowded bounds files c → IsCrowded bounds files d
  crowded (runs, apart, all, many) =
      let b = rests runs all in
      let images = subst (AllByRecursion (IsBoundedCounted bounds files c)) b.1 all in (
        map (λ (es : List EdgeAt). f ∷ es) b.0,
        IsApart-map (λ (es : List EdgeAt). f ∷ es) (λ xs ys same. cc) b.0 (apart_before (λ (es : List EdgeAt). e ∷ es) b.0 (subst IsApart b.1 apart)),
        carried b.0 images,
        subst (λ n. max_runs < n) (ap length b.1 ∙ (length-map b.0 (λ (es : List EdgeAt). e ∷ es) ∙ sym (length-map b.0 (λ (es : List EdgeAt). f ∷ es)))) many,
      )
    where
      -- what follows the first edge of each
      rests : (runs : List (List EdgeAt)) → AllByRecursion (IsBoundedCounted bounds files c) runs → (all : List (List EdgeAt)) × (runs ≡ map (λ (es : List EdgeAt). e ∷ es) all)
      rests [] all = ([], refl)
      rests (es ∷ runs) all =
          let b = begins files c d e f alike es all.0.counted.nonempty all.0.counted.runs in
          let more = rests runs all.1 in
          (b.0 ∷ more.0, λ i. b.1 i ∷ more.1 i)

      carried : (all : List (List EdgeAt)) → AllByRecursion (IsBoundedCounted bounds files c) (map (λ (es : List EdgeAt). e ∷ es) all)
          → AllByRecursion (IsBoundedCounted bounds files d) (map (λ (es : List EdgeAt). f ∷ es) all)
      carried [] h = tt
      carried (es ∷ all) h = (bounded_counted files c d e f alike bounds es h.0, carried all h.1)

-- so what is found from the one start is found from the other
found_from : (bounds : Bounds) (files : List Graph) (c d : Config) (e f : EdgeAt) (rows : List Hit) (limit : Bool) → AreAlike files c d e f
    → IsFoundFrom bounds files rows limit c → IsFoundFrom bounds files rows limit d
found_from bounds files c d e f rows limit alike h =
    let other = turned files c d e f alike in record {
      exact = record {
        rising = h.exact.rising;
        exact = λ hit. (
          λ m. defined bounds files c d e f alike hit ((h.exact.exact hit).0 m),
          λ is. (h.exact.exact hit).1 (defined bounds files d c f e other hit is),
        );
      };
      limit_is = (
        λ t. limited bounds files c d e f alike (h.limit_is.0 t),
        λ l. h.limit_is.1 (limited bounds files d c f e other l),
      );
      few = λ many. h.few (crowded bounds files d c f e other many);
    }

-- Where runs are cut: not at the start of such a reference.

-- the configuration stands where paths are cut
abbrev StandsCut : List Graph → Config → Type 0
StandsCut files c = is_cut_spot_of files c.spot ≡ true

cut_after : (files : List Graph) (c : Config) (es : List EdgeAt) → AreChecked files → HoldScopeNodes files c.stacks → AllByRecursion (StandsCut files) (after_cuts files c es)
cut_after files c [] checked scopes = tt
cut_after files c (e ∷ es) checked scopes =
    by (step files c e) refl (λ next stepped. cut_after files next es checked (step_scopes files c next e checked scopes stepped))
  where
    one : (next : Config) → step files c e ≡ Some next → (b : Bool) → is_cut_edge files e ≡ b → AllByRecursion (StandsCut files) (if b then next ∷ [] else [])
    one next stepped true t = (cut_spot files c next e scopes stepped t, tt)
    one next stepped false t = tt

    by : (o : Option Config) → step files c e ≡ o → ((next : Config) → step files c e ≡ Some next → AllByRecursion (StandsCut files) (after_cuts files next es))
        → AllByRecursion (StandsCut files) (option_map_or (λ (next : Config). where_cut files e next ++ after_cuts files next es) o [])
    by None is rest = tt
    by (Some next) is rest =
        all-append (StandsCut files) (where_cut files e next) (after_cuts files next es) (one next is (is_cut_edge files e) refl) (rest next is)

-- where the paths of a reference with a plain symbol start
abbrev begun : NodeAt → List ℕ → Config
begun r symbol = at_node r (stacks_of (item_of symbol None ∷ []) [])

there_of : (g : Graph) (n : ℕ) (kind : NodeKind) (o : Option Node) → slice_get g.nodes n ≡ o → option_map (λ (node : Node). node.kind) o ≡ Some kind
    → (node : Node) × (slice_get g.nodes n ≡ Some node) × (node.kind ≡ kind)
there_of g n kind None is h = absurd (none-some kind h)
there_of g n kind (Some node) is h = (node, is, same_Some node.kind kind h)

edge_there : (g : Graph) (k : ℕ) (sink : Place) (o : Option Edge) → slice_get g.edges k ≡ o → option_map (λ (e : Edge). e.sink) o ≡ Some sink
    → (edge : Edge) × (slice_get g.edges k ≡ Some edge) × (edge.sink ≡ sink)
edge_there g k sink None is h = absurd (none-some sink h)
edge_there g k sink (Some edge) is h = (edge, is, same_Some edge.sink sink h)

-- an edge that leaves the node leaves where the path stands
stands_so : (file n : ℕ) (source : Place) → place_eq source (place.At n) ≡ true → stands_at file source (spot.At (node_at file n)) ≡ true
stands_so file n place.Root h = absurd (false≢true h)
stands_so file n place.Jump h = absurd (false≢true h)
stands_so file n (place.At m) h =
    and_from (eqb file file) (eqb n m) (eq-eqb file file refl) (eq-eqb n m (sym (eqb-true m n h)))

only_one : (x e : EdgeAt) → IsIn x (e ∷ []) → x ≡ e
only_one x e (inl same) = same
only_one x e (inr h) = absurd h

module _ (files : List Graph) (file : ℕ) (g : Graph) (in_files : slice_get files file ≡ Some g) where
  starts : (n : ℕ) (symbol : List ℕ) (sink : Place) → BeginsWith g n symbol sink → start files (node_at file n) ≡ Some (begun (node_at file n) symbol)
  starts n symbol sink b =
      let t = there_of g n (Push symbol true) (slice_get g.nodes n) refl b.kind in
      ap (λ (o : Option Graph). option_and_then (start_at (node_at file n)) (option_and_then (λ (x : Graph). slice_get x.nodes n) o)) in_files
      ∙ ap (option_and_then (start_at (node_at file n))) t.1
      ∙ ap (λ (kind : NodeKind). if is_reference_kind kind then option_map (at_node (node_at file n)) (enter (action_of file kind) no_stacks) else None) t.2

  -- the first edge leads to its sink
  enters : (n : ℕ) (symbol : List ℕ) (sink : Place) (b : BeginsWith g n symbol sink)
      → step files (begun (node_at file n) symbol) (edge_at file b.edge) ≡ enter_place files file sink (stacks_of (item_of symbol None ∷ []) [])
  enters n symbol sink b =
      let c = begun (node_at file n) symbol in
      let t = edge_there g b.edge sink (slice_get g.edges b.edge) refl b.leads in
      let l = leaves_from g (place.At n) b.edge (subst (IsIn b.edge) (sym b.alone) (inl refl)) in
      let same : l.0 ≡ t.0 = same_Some l.0 t.0 (sym l.1 ∙ t.1) in
      let stands = stands_so file n t.0.source (subst (λ (x : Edge). place_eq x.source (place.At n) ≡ true) same l.2) in
      ap (λ (o : Option Graph). option_and_then (λ (edge : Edge). follow files file edge c) (option_and_then (λ (x : Graph). slice_get x.edges b.edge) o)) in_files
      ∙ ap (option_and_then (λ (edge : Edge). follow files file edge c)) t.1
      ∙ (λ i. if stands i then enter_place files file (t.2 i) c.stacks else None)

  -- no other edge can be followed
  only_edge : (n : ℕ) (symbol : List ℕ) (sink : Place) (b : BeginsWith g n symbol sink) (x : EdgeAt) (next : Config)
      → step files (begun (node_at file n) symbol) x ≡ Some next → x ≡ edge_at file b.edge
  only_edge n symbol sink b x next stepped =
      let out_is : out files (spot.At (node_at file n)) ≡ edge_at file b.edge ∷ [] =
      ap (λ (o : Option Graph). option_map_or (out_of_file file (place.At n)) o []) in_files ∙ ap (map (edge_at file)) b.alone in
      only_one x (edge_at file b.edge) (subst (IsIn x) out_is (IsIn-out files (begun (node_at file n) symbol) next x stepped))

  cut_as : (n : ℕ) (symbol : List ℕ) (sink : Place) (b : BeginsWith g n symbol sink) → is_cut_edge files (edge_at file b.edge) ≡ is_cut g sink
  cut_as n symbol sink b =
      let t = edge_there g b.edge sink (slice_get g.edges b.edge) refl b.leads in
      is_cut_edge-found files (edge_at file b.edge) g t.0 in_files t.1 ∙ ap (is_cut g) t.2

  -- the start isn't met again after a cut edge
  not_again : (n : ℕ) (symbol : List ℕ) (sink : Place) → AreChecked files → BeginsWith g n symbol sink → (es : List EdgeAt)
      → AllByRecursion (λ (x : Config). begun (node_at file n) symbol ≢ x) (after_cuts files (begun (node_at file n) symbol) es)
  not_again n symbol sink checked b es =
      let c = begun (node_at file n) symbol in
      each (StandsCut files) (λ (x : Config). c ≢ x)
      (λ x cut same. false≢true (sym (cut_of files file g (place.At n) in_files ∙ b.uncut) ∙ (ap (λ (y : Config). is_cut_spot_of files y.spot) same ∙ cut)))
      (after_cuts files c es) (cut_after files c es checked ((tt, tt), tt))

  alike : (m n : ℕ) (symbol : List ℕ) (sink : Place) → AreChecked files → (a : BeginsWith g m symbol sink) (b : BeginsWith g n symbol sink)
      → AreAlike files (begun (node_at file m) symbol) (begun (node_at file n) symbol) (edge_at file a.edge) (edge_at file b.edge)
  alike m n symbol sink checked a b = record {
    only = only_edge m symbol sink a;
    only_other = only_edge n symbol sink b;
    steps = enters m symbol sink a ∙ sym (enters n symbol sink b);
    cuts = cut_as m symbol sink a ∙ sym (cut_as n symbol sink b);
    high = refl;
    apart = not_again m symbol sink checked a;
    apart_other = not_again n symbol sink checked b;
  }

  found_too : (bounds : Bounds) (m n : ℕ) (symbol : List ℕ) (sink : Place) (rows : List Hit) (limit : Bool) → AreChecked files → BeginsWith g m symbol sink → BeginsWith g n symbol sink
      → IsFound bounds files (node_at file m) rows limit → IsFound bounds files (node_at file n) rows limit
  found_too bounds m n symbol sink rows limit checked a b h =
      subst (λ (o : Option Config). IsSomeAnd o (IsFoundFrom bounds files rows limit)) (sym (starts n symbol sink b))
      (found_from bounds files (begun (node_at file m) symbol) (begun (node_at file n) symbol) (edge_at file a.edge) (edge_at file b.edge) rows limit (alike m n symbol sink checked a b)
      (subst (λ (o : Option Config). IsSomeAnd o (IsFoundFrom bounds files rows limit)) (starts m symbol sink a) h))

-- what tells twins
pub twins_of : (files : List Graph) (a b : NodeAt) (symbol : List ℕ) (sink : Place) → a.file ≡ b.file → IsLead files a symbol sink → IsLead files b symbol sink → AreTwins files a b
twins_of files a b symbol sink same first second =
    let graph : second.graph ≡ first.graph =
    same_Some second.graph first.graph (sym second.in_files ∙ (ap (slice_get files) (sym same) ∙ first.in_files)) in record {
      graph = first.graph;
      symbol = symbol;
      sink = sink;
      in_files = first.in_files;
      one_file = same;
      first = first.begins;
      second = subst (λ (g : Graph). BeginsWith g b.node symbol sink) graph second.begins;
    }

pub twins_are_found_alike : TwinsAreFoundAlike
twins_are_found_alike bounds files a b rows limit sources t h =
    subst (λ k. IsFound bounds (graphs_of files) (node_at k b.node) rows limit) t.one_file
    (found_too (graphs_of files) a.file t.graph t.in_files bounds a.node b.node t.symbol t.sink rows limit (all_checked files sources) t.first t.second h)

-- what was found of a reference that is kept is so of one of its file that begins like it
pub known_too : (bounds : Bounds) (files : List FileRules) (kept : Kept) (reference : NodeAt) (symbol : List ℕ) (sink : ℕ) → All IsSourceFile files → IsKept bounds (graphs_of files) kept
    → IsLead (graphs_of files) reference symbol (place.At sink) → kept.reference.file ≡ reference.file → kept.lead.sink ≡ sink → kept.lead.symbol.now ≡ symbol
    → IsFound bounds (graphs_of files) reference kept.found.rows kept.found.limit
known_too bounds files kept reference symbol sink sources is lead same_file same_sink same_symbol =
    let first =
    subst (λ (s : List ℕ). IsLead (graphs_of files) kept.reference s (place.At sink)) same_symbol
    (subst (λ k. IsLead (graphs_of files) kept.reference kept.lead.symbol.now (place.At k)) same_sink is.lead) in
    twins_are_found_alike bounds files kept.reference reference kept.found.rows kept.found.limit sources
    (twins_of (graphs_of files) kept.reference reference symbol (place.At sink) same_file first lead) is.found

-- an edge that leaves a node is one of the graph's
pub edge_within : (g : Graph) (n e : ℕ) (rest : List ℕ) → edges_from g (place.At n) ≡ e ∷ rest → e < length g.edges
edge_within g n e rest is =
    let l = leaves_from g (place.At n) e (subst (IsIn e) (sym is) (inl refl)) in slice_get_within g.edges e l.0 l.1
