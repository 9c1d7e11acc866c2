-- A reference begins a back list on empty stacks exactly where a bounded complete run leads from it to the definition.
use Rattle.std.proofs.Common.{◌≡◌, ◌≢◌, ◌≤◌, refl, sym, ap, ◌∙◌, subst, max, List, [], ◌∷◌, length, Bool, true, false, Option, Some, None, if◌then◌else◌, arith}
use Rattle.std.specs.Prelude.{slice_get, IsTrue, IsSomeAnd}
use Rattle.std.specs.Option.{option_map, option_and_then, option_map_or}
use Rattle.std.proofs.lemmas.Bool.{false≢true}
use Rattle.std.proofs.lemmas.Option.{none-some, same_Some, option_and_then_some}
use Rattle.graph_nodes.specs.declared.node.Node.{Node}
use Rattle.graph_nodes.specs.declared.node.NodeKind.{NodeKind}
use Rattle.graph_nodes.specs.declared.node.NodeKind.TheVariants.{Scope, Push, PushScoped, Pop, PopScoped, Drops}
use Rattle.graph_nodes.specs.declared.node.Place.TheVariants as place
use Rattle.graph_nodes.specs.Graph.{Graph, is_reference, is_reference_kind}
use Rattle.graph_nodes.specs.Whole.{node_of, is_reference_of, is_definition_of}
use Rattle.stacks_vars.specs.declared.scopes.NodeAt.{NodeAt}
use Rattle.stacks_vars.specs.Enter.{item_of, stacks_of, no_stacks, enter}
use Rattle.partial_path.specs.declared.config.Spot.TheVariants.{At}
use Rattle.partial_path.specs.declared.config.Config.{Config}
use Rattle.partial_path.specs.declared.config.EdgeAt.{EdgeAt}
use Rattle.partial_path.specs.declared.rule.Start.TheVariants.{Before}
use Rattle.partial_path.specs.Spots.{node_at, at_node, is_definition_spot}
use Rattle.partial_path.specs.Step.{start, start_at, enter_node, enter_place, action_of}
use Rattle.partial_path.specs.Same.{spot_eq}
use Rattle.partial_path.specs.Runs.{run, IsAtDefinition}
use Rattle.partial_path.specs.Counted.{IsBoundedComplete}
use Rattle.partial_path.specs.Walks.{begin, highest, highest_from}
use Rattle.partial_path.proofs.Followed.{if_some}
use Rattle.partial_path.proofs.Joints.{begin_before}
use Rattle.back_stitch.specs.Lists.{most_edges, most_depth, LeadTo, BeginsList, usual, Reaches}
use Rattle.back_stitch.specs.Laws.{RoundsCanBeCut}
use Rattle.partial_path.proofs.HighJoints.{shallow_to, shallow_from}
use Rattle.back_stitch.proofs.Rounds.{straightened}

-- where the runs of a reference start

kind_started : (r : NodeAt) (o : Option Node) (c : Config) → option_map_or (λ (node : Node). is_reference_kind node.kind) o false ≡ true
    → option_and_then (λ (node : Node). enter_node r node no_stacks) o ≡ Some c → option_and_then (start_at r) o ≡ Some c
kind_started r None c h k = absurd (none-some c k)
kind_started r (Some node) c h k = ap (λ (b : Bool). if b then enter_node r node no_stacks else None) h ∙ k

file_started : (r : NodeAt) (o : Option Graph) (c : Config) → option_map_or (λ (g : Graph). is_reference g.nodes r.node) o false ≡ true
    → option_and_then (λ (node : Node). enter_node r node no_stacks) (option_and_then (λ (g : Graph). slice_get g.nodes r.node) o) ≡ Some c
    → option_and_then (start_at r) (option_and_then (λ (g : Graph). slice_get g.nodes r.node) o) ≡ Some c
file_started r None c h k = absurd (none-some c k)
file_started r (Some g) c h k = kind_started r (slice_get g.nodes r.node) c h k

-- a reference that is begun on empty stacks
begun_start : (files : List Graph) (r : NodeAt) (c : Config) → is_reference_of files r.file r.node ≡ true → begin files (Before r) (at_node r no_stacks) ≡ Some c → start files r ≡ Some c
begun_start files r c h began =
    file_started r (slice_get files r.file) c h (if_some (spot_eq (At r) (At r)) (enter_place files r.file (place.At r.node) no_stacks) c began).1

kind_reference : (r : NodeAt) (o : Option Node) (c : Config) → option_and_then (start_at r) o ≡ Some c → option_map_or (λ (node : Node). is_reference_kind node.kind) o false ≡ true
kind_reference r None c h = absurd (none-some c h)
kind_reference r (Some node) c h = (if_some (is_reference_kind node.kind) (enter_node r node no_stacks) c h).0

file_reference : (r : NodeAt) (o : Option Graph) (c : Config) → option_and_then (start_at r) (option_and_then (λ (g : Graph). slice_get g.nodes r.node) o) ≡ Some c
    → option_map_or (λ (g : Graph). is_reference g.nodes r.node) o false ≡ true
file_reference r None c h = absurd (none-some c h)
file_reference r (Some g) c h = kind_reference r (slice_get g.nodes r.node) c h

-- there is a symbol on the stack where it starts

kind_symbol : (r : NodeAt) (kind : NodeKind) (c : Config) → is_reference_kind kind ≡ true → option_map (at_node r) (enter (action_of r.file kind) no_stacks) ≡ Some c → c.stacks.symbols ≢ []
kind_symbol r (Scope exported) c h e none = false≢true h
kind_symbol r (Push symbol reference) c h e none =
    let is = ap (λ (d : Config). d.stacks.symbols) (same_Some (at_node r (stacks_of (item_of symbol None ∷ []) [])) c e) ∙ none in cc
kind_symbol r (PushScoped symbol scope reference) c h e none =
    let is = ap (λ (d : Config). d.stacks.symbols) (same_Some (at_node r (stacks_of (item_of symbol (Some (node_at r.file scope ∷ [])) ∷ []) [])) c e) ∙ none in cc
kind_symbol r (Pop symbol definition) c h e none = false≢true h
kind_symbol r (PopScoped symbol definition) c h e none = false≢true h
kind_symbol r Drops c h e none = false≢true h

start_symbol : (files : List Graph) (r : NodeAt) (c : Config) → start files r ≡ Some c → c.stacks.symbols ≢ []
start_symbol files r c h =
    option_and_then_some (start_at r) (node_of files r.file r.node) c h
    (λ node found begun.
    let t = if_some (is_reference_kind node.kind) (enter_node r node no_stacks) c begun in kind_symbol r node.kind c t.0 t.1)

no_edges_stay : (files : List Graph) (c end : Config) (list : List EdgeAt) → list ≡ [] → run files c list ≡ Some end → c ≡ end
no_edges_stay files c end list none ran = same_Some c end (ap (run files c) (sym none) ∙ ran)

-- from a back list to a run

high_first : (files : List Graph) (r : NodeAt) (c : Config) (es : List EdgeAt) → begin files (Before r) (at_node r no_stacks) ≡ Some c
    → highest_from files (Before r) es (at_node r no_stacks) ≡ max 0 (highest files c es)
high_first files r c es began = ap (λ (o : Option Config). max 0 (option_map_or (λ (first : Config). highest files first es) o 0)) began

reached_by : (files : List Graph) (d r : NodeAt) (c end : Config) (es : List EdgeAt) → IsTrue (is_definition_of files d.file d.node) → start files r ≡ Some c
    → run files c es ≡ Some end → end.spot ≡ At d → end.stacks.symbols ≡ [] → length es ≤ most_edges → highest files c es ≤ most_depth → Reaches files d r
reached_by files d r c end es at starts ran there none short low =
    let s = straightened files c end es ran in
    let a : length s.list ≤ length es = s.short in
    let b : highest files c s.list ≤ highest files c es = s.low in
    let few : length s.list ≤ most_edges = omega (arith, a, short) in
    let flat : highest files c s.list ≤ most_depth = omega (arith, b, low) in
    let there_is : is_definition_spot files end.spot ≡ true = ap (is_definition_spot files) there ∙ at in
    let lands : IsAtDefinition files end = record { definition = there_is; resolved = none } in
    let full : IsBoundedComplete usual files c s.list = record {
      complete = record {
        nonempty = λ empty. start_symbol files r c starts (ap (λ (x : Config). x.stacks.symbols) (no_edges_stay files c end s.list empty s.runs) ∙ none);
        straight = s.straight;
        ends = subst (λ (o : Option Config). IsSomeAnd o (IsAtDefinition files)) (sym s.runs) lands;
      };
      bounded = record { edges = few; depth = shallow_from most_depth files c s.list flat };
    } in
    let ends : IsSomeAnd (run files c s.list) (λ (x : Config). x.spot ≡ At d) = subst (λ (o : Option Config). IsSomeAnd o (λ (x : Config). x.spot ≡ At d)) (sym s.runs) there in
    subst (λ (o : Option Config). IsSomeAnd o (λ (x : Config). (es : List EdgeAt) × IsBoundedComplete usual files x es × IsSomeAnd (run files x es) (λ (y : Config). y.spot ≡ At d))) (sym starts)
    (s.list, full, ends)

reached : (files : List Graph) (d r : NodeAt) → IsTrue (is_definition_of files d.file d.node) → BeginsList files d r → Reaches files d r
reached files d r at (es, list, leads) =
    option_and_then_some (λ (first : Config). run files first es) (begin files (Before r) (at_node r no_stacks)) leads.end leads.runs
    (λ c began ran.
    let high : highest_from files (Before r) es (at_node r no_stacks) ≡ max 0 (highest files c es) = high_first files r c es began in
    let bound : highest_from files (Before r) es (at_node r no_stacks) ≤ most_depth = leads.shallow in
    reached_by files d r c leads.end es at (begun_start files r c list.starts began) ran leads.there leads.resolved list.short (omega (arith, high, bound)))

-- from a run to a back list

begins_by : (files : List Graph) (d r : NodeAt) (c end : Config) (es : List EdgeAt) → start files r ≡ Some c → IsBoundedComplete usual files c es → run files c es ≡ Some end
    → end.spot ≡ At d → end.stacks.symbols ≡ [] → BeginsList files d r
begins_by files d r c end es starts full ran there none =
    let began = begin_before files r c starts in
    let high : highest_from files (Before r) es (at_node r no_stacks) ≡ max 0 (highest files c es) = high_first files r c es began in
    let flat : highest files c es ≤ most_depth = shallow_to most_depth files c es full.bounded.depth in
    let leads : LeadTo files d (Before r) es no_stacks = record {
      end = end;
      runs = ap (option_and_then (λ (first : Config). run files first es)) began ∙ ran;
      there = there;
      resolved = none;
      shallow = omega (arith, high, flat);
    } in (
      es,
      record {
        starts = file_reference r (slice_get files r.file) c starts;
        nonempty = full.complete.nonempty;
        short = full.bounded.edges;
        stacks = no_stacks;
        exported = (tt, tt);
        leads = leads;
      },
      leads,
    )

both_there : {X : Type 0} (P Q : X → Type 0) (o : Option X) → IsSomeAnd o P → IsSomeAnd o Q → (x : X) × (o ≡ Some x) × P x × Q x
both_there P Q None h k = absurd h
both_there P Q (Some x) h k = (x, refl, h, k)

one_there : {X : Type 0} (P : X → Type 0) (o : Option X) → IsSomeAnd o P → (x : X) × (o ≡ Some x) × P x
one_there P None h = absurd h
one_there P (Some x) h = (x, refl, h)

begins : (files : List Graph) (d r : NodeAt) → Reaches files d r → BeginsList files d r
begins files d r h =
    let (c, starts, (es, full, ends)) = one_there (λ (c : Config). (es : List EdgeAt) × IsBoundedComplete usual files c es × IsSomeAnd (run files c es) (λ (end : Config). end.spot ≡ At d)) (start files r) h in
    let (end, ran, lands, there) = both_there (IsAtDefinition files) (λ (end : Config). end.spot ≡ At d) (run files c es) full.complete.ends ends in
    begins_by files d r c end es starts full ran there lands.resolved

pub rounds_can_be_cut : RoundsCanBeCut
rounds_can_be_cut files d r at = (reached files d r at, begins files d r)
