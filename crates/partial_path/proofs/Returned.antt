-- All scopes on the stacks of a run are exported scopes. So a run ends at the root or at a node of the files, and
-- one that comes back to its reference with one symbol and no scopes is back at its start.
use Rattle.std.proofs.Common.{◌≡◌, refl, sym, ap, ◌∙◌, subst, ℕ, List, [], ◌∷◌, true, Option, Some, None, is_some, arith, suc, if◌then◌else◌}
use Rattle.std.specs.Prelude.{slice_get, IsSome, ◌≢◌, length, Bool, false}
use Rattle.std.specs.Option.{option_map, option_and_then, option_map_or}
use Rattle.std.proofs.lemmas.Bool.{false≢true}
use Rattle.std.proofs.lemmas.Option.{none-some, same_Some, option_and_then_some}
use Rattle.graph_nodes.specs.declared.node.Node.{Node}
use Rattle.graph_nodes.specs.declared.node.NodeKind.{NodeKind}
use Rattle.graph_nodes.specs.declared.node.NodeKind.TheVariants.{Scope, Push, PushScoped, Pop, PopScoped, Drops}
use Rattle.graph_nodes.specs.declared.node.Place.{Place}
use Rattle.graph_nodes.specs.declared.node.Place.TheVariants as place
use Rattle.graph_nodes.specs.Graph.{Graph, is_exported, is_exported_kind, is_reference_kind}
use Rattle.graph_nodes.specs.Whole.{node_of}
use Rattle.stacks_vars.specs.declared.scopes.NodeAt.{NodeAt}
use Rattle.stacks_vars.specs.declared.items.SymbolItem.{SymbolItem}
use Rattle.stacks_vars.specs.declared.stacks.Stacks.{Stacks}
use Rattle.stacks_vars.specs.Enter.{item_of, stacks_of, enter}
use Rattle.partial_path.specs.declared.config.Config.{Config}
use Rattle.partial_path.specs.declared.config.EdgeAt.{EdgeAt}
use Rattle.partial_path.specs.Spots.{node_at, at_node}
use Rattle.partial_path.specs.Step.{action_of, enter_node, enter_place, step, start, start_at}
use Rattle.partial_path.specs.Runs.{run}
use Rattle.partial_path.specs.Sources.{graphs_of}
use Rattle.partial_path.specs.Laws.{IsSpotOf, IsAtStart, ReturnsAreStarts, RunsEndInFiles}
use Rattle.partial_path.specs.declared.config.Spot.TheVariants as spot
use Rattle.stacks_vars.specs.Enter.{no_stacks}
use Rattle.partial_path.proofs.CutRuns.{all_checked}
use Rattle.partial_path.proofs.Exported.{AreChecked, IsScopeNode, HoldScopeNodes, entered_scopes, mapped_scopes, node_attaches, jump_scopes, step_scopes}
use Rattle.partial_path.proofs.Followed.{followed_by, entered_spot, root_spot}

run_scopes : (files : List Graph) (c end : Config) (es : List EdgeAt) → AreChecked files → HoldScopeNodes files c.stacks → run files c es ≡ Some end → HoldScopeNodes files end.stacks
run_scopes files c end [] checked h ran = subst (λ (x : Config). HoldScopeNodes files x.stacks) (same_Some c end ran) h
run_scopes files c end (e ∷ es) checked h ran =
    option_and_then_some (λ (next : Config). run files next es) (step files c e) end ran
    (λ next stepped rest. run_scopes files next end es checked (step_scopes files c next e checked h stepped) rest)

-- the place of the last step of a run: what was entered, and from which stacks
record IsEntered (files : List Graph) (end : Config) : Type 0 where
  file : ℕ
  sink : Place
  before : Config
  holds : HoldScopeNodes files before.stacks
  enters : enter_place files file sink before.stacks ≡ Some end

entered_last : (files : List Graph) (c end : Config) (es : List EdgeAt) → AreChecked files → HoldScopeNodes files c.stacks → es ≢ [] → run files c es ≡ Some end → IsEntered files end
entered_last files c end [] checked h some ran = absurd (some refl)
entered_last files c end (e ∷ []) checked h some ran =
    option_and_then_some (λ (next : Config). run files next []) (step files c e) end ran
    (λ next stepped rest.
    let by = followed_by files c next e stepped in
    subst (IsEntered files) (same_Some next end rest)
    record { file = e.file; sink = by.edge.sink; before = c; holds = h; enters = by.enters })
entered_last files c end (e ∷ f ∷ es) checked h some ran =
    option_and_then_some (λ (next : Config). run files next (f ∷ es)) (step files c e) end ran
    (λ next stepped rest. entered_last files next end (f ∷ es) checked (step_scopes files c next e checked h stepped) (λ z. cc) rest)

scope_kind : (g : Graph) (n : ℕ) (o : Option Node) → slice_get g.nodes n ≡ o → option_map_or (λ (node : Node). is_exported_kind node.kind) o false ≡ true → (node : Node) × (slice_get g.nodes n ≡ Some node) × (is_exported_kind node.kind ≡ true)
scope_kind g n None is h = absurd (false≢true h)
scope_kind g n (Some node) is h = (node, is, h)

scope_in : (files : List Graph) (file n : ℕ) (o : Option Graph) → slice_get files file ≡ o → option_map_or (λ (g : Graph). is_exported g.nodes n) o false ≡ true → (node : Node) × (node_of files file n ≡ Some node) × (is_exported_kind node.kind ≡ true)
scope_in files file n None is h = absurd (false≢true h)
scope_in files file n (Some g) is h =
    let k = scope_kind g n (slice_get g.nodes n) refl h in
    (k.0, ap (option_and_then (λ (x : Graph). slice_get x.nodes n)) is ∙ k.1, k.2)

scope_node : (files : List Graph) (at : NodeAt) → IsScopeNode files at → (node : Node) × (node_of files at.file at.node ≡ Some node) × (is_exported_kind node.kind ≡ true)
scope_node files at h = scope_in files at.file at.node (slice_get files at.file) refl h

some_node : (o : Option Node) (node : Node) → o ≡ Some node → IsSome o
some_node o node e = ap is_some e

spot_entered : (files : List Graph) (file : ℕ) (sink : Place) (s : Stacks) (end : Config) → HoldScopeNodes files s → enter_place files file sink s ≡ Some end → IsSpotOf files end.spot
spot_entered files file place.Root s end h e = subst (IsSpotOf files) (sym (root_spot s end e)) tt
spot_entered files file place.Jump s end h e =
    let j = jump_scopes files s.symbols s.scopes end h.0 h.1 e in
    let n = scope_node files j.1 j.3 in
    subst (IsSpotOf files) (sym j.2) (some_node (node_of files j.1.file j.1.node) n.0 n.1)
spot_entered files file (place.At n) s end h e =
    option_and_then_some (λ (node : Node). enter_node (node_at file n) node s) (node_of files file n) end e
    (λ node found entered. subst (IsSpotOf files) (sym (entered_spot files file n s end e)) (some_node (node_of files file n) node found))

same_at : (a b : NodeAt) → spot.At a ≡ spot.At b → a ≡ b
same_at a b e = cc

no_root : (a : NodeAt) → spot.Root ≡ spot.At a → ⊥
no_root a e = cc

one_symbol : (item : SymbolItem) (symbols : List SymbolItem) → length (item ∷ symbols) ≡ 1 → symbols ≡ []
one_symbol item [] e = refl
one_symbol item (x ∷ symbols) e = absurd (no (length symbols) e)
  where
    no : (n : ℕ) → suc (suc n) ≡ 1 → ⊥
    no n e = omega arith

-- a reference isn't an exported scope
no_scope : (kind : NodeKind) → is_reference_kind kind ≡ true → is_exported_kind kind ≡ true → ⊥
no_scope (Scope exported) r x = false≢true r
no_scope (Push symbol reference) r x = false≢true x
no_scope (PushScoped symbol scope reference) r x = false≢true x
no_scope (Pop symbol definition) r x = false≢true r
no_scope (PopScoped symbol definition) r x = false≢true r
no_scope Drops r x = false≢true r

-- the start of a reference has one symbol and no scopes
start_kind : (at : NodeAt) (kind : NodeKind) (c : Config) → is_reference_kind kind ≡ true → option_map (at_node at) (enter (action_of at.file kind) no_stacks) ≡ Some c → IsAtStart at c
start_kind at (Scope exported) c r e = absurd (false≢true r)
start_kind at (Push symbol reference) c r e =
    subst (IsAtStart at) (same_Some (at_node at (stacks_of (item_of symbol None ∷ []) [])) c e) record { spot = refl; one = refl; none = refl }
start_kind at (PushScoped symbol scope reference) c r e =
    subst (IsAtStart at) (same_Some (at_node at (stacks_of (item_of symbol (Some (node_at at.file scope ∷ [])) ∷ []) [])) c e) record { spot = refl; one = refl; none = refl }
start_kind at (Pop symbol definition) c r e = absurd (false≢true r)
start_kind at (PopScoped symbol definition) c r e = absurd (false≢true r)
start_kind at Drops c r e = absurd (false≢true r)

-- entered with one symbol and no scopes in the end, it was entered with empty stacks
entered_kind : (at : NodeAt) (kind : NodeKind) (s : Stacks) (end : Config) → is_reference_kind kind ≡ true → option_map (at_node at) (enter (action_of at.file kind) s) ≡ Some end → length end.stacks.symbols ≡ 1 → end.stacks.scopes ≡ [] → s ≡ no_stacks
entered_kind at (Scope exported) s end r e one none = absurd (false≢true r)
entered_kind at (Push symbol reference) s end r e one none =
    let is = same_Some (at_node at (stacks_of (item_of symbol None ∷ s.symbols) s.scopes)) end e in
    let a = one_symbol (item_of symbol None) s.symbols (ap (λ (c : Config). length c.stacks.symbols) is ∙ one) in
    let b : s.scopes ≡ [] = ap (λ (c : Config). c.stacks.scopes) is ∙ none in
    λ i. stacks_of (a i) (b i)
entered_kind at (PushScoped symbol scope reference) s end r e one none =
    let item = item_of symbol (Some (node_at at.file scope ∷ s.scopes)) in
    let is = same_Some (at_node at (stacks_of (item ∷ s.symbols) s.scopes)) end e in
    let a = one_symbol item s.symbols (ap (λ (c : Config). length c.stacks.symbols) is ∙ one) in
    let b : s.scopes ≡ [] = ap (λ (c : Config). c.stacks.scopes) is ∙ none in
    λ i. stacks_of (a i) (b i)
entered_kind at (Pop symbol definition) s end r e one none = absurd (false≢true r)
entered_kind at (PopScoped symbol definition) s end r e one none = absurd (false≢true r)
entered_kind at Drops s end r e one none = absurd (false≢true r)

-- the node of a reference, and where its runs start
record IsStarted (files : List Graph) (r : NodeAt) (c : Config) : Type 0 where
  node : Node
  found : node_of files r.file r.node ≡ Some node
  reference : is_reference_kind node.kind ≡ true
  enters : enter_node r node no_stacks ≡ Some c

started : (files : List Graph) (r : NodeAt) (c : Config) → start files r ≡ Some c → IsStarted files r c
started files r c h =
    option_and_then_some (start_at r) (node_of files r.file r.node) c h
    (λ node found begun. by node found (is_reference_kind node.kind) refl begun)
  where
    by : (node : Node) → node_of files r.file r.node ≡ Some node → (b : Bool) → is_reference_kind node.kind ≡ b → (if b then enter_node r node no_stacks else None) ≡ Some c → IsStarted files r c
    by node found true t e = record { node = node; found = found; reference = t; enters = e }
    by node found false t e = absurd (none-some c e)

returned_by : (files : List Graph) (r : NodeAt) (c end : Config) (file : ℕ) (sink : Place) (s : Stacks) → HoldScopeNodes files s → IsStarted files r c → enter_place files file sink s ≡ Some end → IsAtStart r end → end ≡ c
returned_by files r c end file place.Root s h st e back = absurd (no_root r (sym (root_spot s end e) ∙ back.spot))
returned_by files r c end file place.Jump s h st e back =
    let j = jump_scopes files s.symbols s.scopes end h.0 h.1 e in
    let same : j.1 ≡ r = same_at j.1 r (sym j.2 ∙ back.spot) in
    let n = scope_node files r (subst (IsScopeNode files) same j.3) in
    absurd (no_scope st.node.kind st.reference (subst (λ (x : Node). is_exported_kind x.kind ≡ true) (same_Some n.0 st.node (sym n.1 ∙ st.found)) n.2))
returned_by files r c end file (place.At n) s h st e back =
    option_and_then_some (λ (node : Node). enter_node (node_at file n) node s) (node_of files file n) end e
    (λ node found entered.
    let at : node_at file n ≡ r = same_at (node_at file n) r (sym (entered_spot files file n s end e) ∙ back.spot) in
    let there : node_of files r.file r.node ≡ Some node = subst (λ (x : NodeAt). node_of files x.file x.node ≡ Some node) at found in
    let is : node ≡ st.node = same_Some node st.node (sym there ∙ st.found) in
    let here : enter_node r st.node s ≡ Some end = (λ i. enter_node (sym at i) (sym is i) s) ∙ entered in
    let none = entered_kind r st.node.kind s end st.reference here back.one back.none in
    same_Some end c (sym here ∙ (ap (enter_node r st.node) none ∙ st.enters)))

start_holds : (files : List Graph) (r : NodeAt) (c : Config) → AreChecked files → IsStarted files r c → HoldScopeNodes files c.stacks
start_holds files r c checked st =
    mapped_scopes files r (enter (action_of r.file st.node.kind) no_stacks) c
    (λ t is. entered_scopes files r.file st.node.kind no_stacks t (node_attaches files r.file r.node st.node checked st.found) (tt, tt) is) st.enters

pub returns_are_starts : ReturnsAreStarts
returns_are_starts files r c end es sources begins some ran =
    let all = graphs_of files in
    let checked = all_checked files sources in
    let st = started all r c begins in
    let by = entered_last all c end es checked (start_holds all r c checked st) some ran in (
      λ e. subst (IsAtStart r) (sym e) (start_kind r st.node.kind c st.reference st.enters),
      λ back. returned_by all r c end by.file by.sink by.before.stacks by.holds st by.enters back,
    )

pub runs_end_in_files : RunsEndInFiles
runs_end_in_files files r c end es sources begins some ran =
    let all = graphs_of files in
    let checked = all_checked files sources in
    let by = entered_last all c end es checked (start_holds all r c checked (started all r c begins)) some ran in
    spot_entered all by.file by.sink by.before.stacks end by.holds by.enters
