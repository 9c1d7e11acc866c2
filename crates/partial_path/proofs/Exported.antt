-- All scopes on the stacks of a run are exported scopes, so a run that jumps to one stands where paths are cut.
use Rattle.std.proofs.Common.{◌≡◌, refl, sym, ap, ◌∙◌, subst, ℕ, List, [], ◌∷◌, Bool, true, false, Option, Some, None}
use Rattle.std.specs.Prelude.{slice_get, IsTrue, ⊤}
use Rattle.std.specs.Option.{option_map, option_map_or}
use Rattle.std.specs.List.{AllByRecursion}
use Rattle.std.specs.Str.{bytes_eq}
use Rattle.std.proofs.lemmas.Bool.{false≢true, or_left}
use Rattle.std.proofs.lemmas.Option.{none-some, same_Some, option_and_then_some, cond_some, slice_get_within, get_or_from_slice_get}
use Rattle.graph_nodes.specs.declared.node.Node.{Node}
use Rattle.graph_nodes.specs.declared.node.NodeKind.{NodeKind}
use Rattle.graph_nodes.specs.declared.node.NodeKind.TheVariants.{Scope, Push, PushScoped, Pop, PopScoped, Drops}
use Rattle.graph_nodes.specs.declared.node.Place.{Place}
use Rattle.graph_nodes.specs.declared.node.Place.TheVariants as place
use Rattle.graph_nodes.specs.Graph.{Graph, is_exported}
use Rattle.graph_nodes.specs.Cut.{is_cut, is_turning}
use Rattle.graph_nodes.specs.Whole.{node_of, is_cut_of}
use Rattle.graph_nodes.specs.Checked.{IsChecked, has_scope}
use Rattle.graph_nodes.proofs.Faults.{graph_fault-none}
use Rattle.stacks_vars.specs.declared.scopes.NodeAt.{NodeAt}
use Rattle.stacks_vars.specs.declared.items.SymbolItem.{SymbolItem}
use Rattle.stacks_vars.specs.declared.stacks.Stacks.{Stacks}
use Rattle.stacks_vars.specs.Enter.{item_of, stacks_of, popped, popped_scoped, pop, pop_scoped, enter}
use Rattle.partial_path.specs.declared.config.Config.{Config}
use Rattle.partial_path.specs.declared.config.EdgeAt.{EdgeAt}
use Rattle.partial_path.specs.Spots.{node_at, at_node, at_root}
use Rattle.partial_path.specs.Step.{action_of, enter_node, enter_jump, enter_place, step, is_cut_edge}
use Rattle.partial_path.specs.declared.config.Spot.TheVariants as spot
use Rattle.partial_path.specs.Walks.{is_cut_spot_of}
use Rattle.partial_path.proofs.Edges.{is_cut_edge-found}
use Rattle.partial_path.proofs.Followed.{followed_by, entered_spot, root_spot, cut_of}

-- all graphs of the files are checked
abbrev pub AreChecked : List Graph → Type 0
AreChecked files = (k : ℕ) (g : Graph) → slice_get files k ≡ Some g → IsChecked g

-- whether the file has an exported scope at the position
abbrev is_exported_of : List Graph → ℕ → ℕ → Bool
is_exported_of files file n = option_map_or (λ (g : Graph). is_exported g.nodes n) (slice_get files file) false

-- the node is an exported scope
abbrev pub IsScopeNode : List Graph → NodeAt → Type 0
IsScopeNode files node = is_exported_of files node.file node.node ≡ true

abbrev AreScopeNodes : List Graph → Option (List NodeAt) → Type 0
AreScopeNodes files None = ⊤
AreScopeNodes files (Some scopes) = AllByRecursion (IsScopeNode files) scopes

abbrev HoldsScopes : List Graph → SymbolItem → Type 0
HoldsScopes files item = AreScopeNodes files item.scopes

-- all scopes on the stacks are such nodes
abbrev pub HoldScopeNodes : List Graph → Stacks → Type 0
HoldScopeNodes files s = AllByRecursion (HoldsScopes files) s.symbols × AllByRecursion (IsScopeNode files) s.scopes

-- the scope that a node of this kind attaches is such a node
abbrev AttachesScope : List Graph → ℕ → NodeKind → Type 0
AttachesScope files file (PushScoped symbol scope reference) = IsScopeNode files (node_at file scope)
AttachesScope files file (Scope exported) = ⊤
AttachesScope files file (Push symbol reference) = ⊤
AttachesScope files file (Pop symbol definition) = ⊤
AttachesScope files file (PopScoped symbol definition) = ⊤
AttachesScope files file Drops = ⊤

popped_scopes : (files : List Graph) (front : List ℕ) (attached : Option (List NodeAt)) (symbol : List ℕ) (rest : List SymbolItem) (scopes : List NodeAt) (t : Stacks)
    → AllByRecursion (HoldsScopes files) rest → AllByRecursion (IsScopeNode files) scopes → popped front attached symbol rest scopes ≡ Some t → HoldScopeNodes files t
popped_scopes files front (Some attached) symbol rest scopes t h k e = absurd (none-some t e)
popped_scopes files front None symbol rest scopes t h k e = subst (HoldScopeNodes files) (cond_some (bytes_eq front symbol) (stacks_of rest scopes) t e).1 (h, k)

popped_scoped_scopes : (files : List Graph) (front : List ℕ) (attached : Option (List NodeAt)) (symbol : List ℕ) (rest : List SymbolItem) (t : Stacks)
    → AllByRecursion (HoldsScopes files) rest → AreScopeNodes files attached → popped_scoped front attached symbol rest ≡ Some t → HoldScopeNodes files t
popped_scoped_scopes files front None symbol rest t h k e = absurd (none-some t e)
popped_scoped_scopes files front (Some attached) symbol rest t h k e = subst (HoldScopeNodes files) (cond_some (bytes_eq front symbol) (stacks_of rest attached) t e).1 (h, k)

pop_scopes : (files : List Graph) (symbol : List ℕ) (symbols : List SymbolItem) (scopes : List NodeAt) (t : Stacks)
    → AllByRecursion (HoldsScopes files) symbols → AllByRecursion (IsScopeNode files) scopes → pop symbol symbols scopes ≡ Some t → HoldScopeNodes files t
pop_scopes files symbol [] scopes t h k e = absurd (none-some t e)
pop_scopes files symbol (front ∷ rest) scopes t h k e = popped_scopes files front.symbol front.scopes symbol rest scopes t h.1 k e

pop_scoped_scopes : (files : List Graph) (symbol : List ℕ) (symbols : List SymbolItem) (t : Stacks)
    → AllByRecursion (HoldsScopes files) symbols → pop_scoped symbol symbols ≡ Some t → HoldScopeNodes files t
pop_scoped_scopes files symbol [] t h e = absurd (none-some t e)
pop_scoped_scopes files symbol (front ∷ rest) t h e = popped_scoped_scopes files front.symbol front.scopes symbol rest t h.1 h.0 e

pub entered_scopes : (files : List Graph) (file : ℕ) (kind : NodeKind) (s t : Stacks) → AttachesScope files file kind → HoldScopeNodes files s → enter (action_of file kind) s ≡ Some t
    → HoldScopeNodes files t
entered_scopes files file (Scope exported) s t scope_there h e = subst (HoldScopeNodes files) (same_Some s t e) h
entered_scopes files file (Push symbol reference) s t scope_there h e =
    subst (HoldScopeNodes files) (same_Some (stacks_of (item_of symbol None ∷ s.symbols) s.scopes) t e) ((tt, h.0), h.1)
entered_scopes files file (PushScoped symbol scope reference) s t scope_there h e =
    subst (HoldScopeNodes files) (same_Some (stacks_of (item_of symbol (Some (node_at file scope ∷ s.scopes)) ∷ s.symbols) s.scopes) t e) (((scope_there, h.1), h.0), h.1)
entered_scopes files file (Pop symbol definition) s t scope_there h e = pop_scopes files symbol s.symbols s.scopes t h.0 h.1 e
entered_scopes files file (PopScoped symbol definition) s t scope_there h e = pop_scoped_scopes files symbol s.symbols t h.0 e
entered_scopes files file Drops s t scope_there h e = subst (HoldScopeNodes files) (same_Some (stacks_of s.symbols []) t e) (h.0, tt)

pub mapped_scopes : (files : List Graph) (at : NodeAt) (o : Option Stacks) (next : Config) → ((t : Stacks) → o ≡ Some t → HoldScopeNodes files t)
    → option_map (at_node at) o ≡ Some next → HoldScopeNodes files next.stacks
mapped_scopes files at None next each h = absurd (none-some next h)
mapped_scopes files at (Some t) next each h = subst (λ (c : Config). HoldScopeNodes files c.stacks) (same_Some (at_node at t) next h) (each t refl)

attaches : (files : List Graph) (file : ℕ) (g : Graph) (kind : NodeKind) → slice_get files file ≡ Some g → IsTrue (has_scope g.nodes kind) → AttachesScope files file kind
attaches files file g (PushScoped symbol scope reference) there h =
    ap (λ (o : Option Graph). option_map_or (λ (x : Graph). is_exported x.nodes scope) o false) there ∙ h
attaches files file g (Scope exported) there h = tt
attaches files file g (Push symbol reference) there h = tt
attaches files file g (Pop symbol definition) there h = tt
attaches files file g (PopScoped symbol definition) there h = tt
attaches files file g Drops there h = tt

-- what a node of a checked graph attaches is an exported scope there
node_scoped : (files : List Graph) (file n : ℕ) (node : Node) → AreChecked files → node_of files file n ≡ Some node
    → (g : Graph) × (slice_get files file ≡ Some g) × IsTrue (has_scope g.nodes node.kind)
node_scoped files file n node checked found =
    option_and_then_some (λ (g : Graph). slice_get g.nodes n) (slice_get files file) node found
    (λ g there is. (
      g,
      there,
      subst (λ (x : Node). IsTrue (has_scope g.nodes x.kind)) (get_or_from_slice_get g.nodes n node node is)
          ((graph_fault-none g.nodes g.edges (checked file g there)).scopes n node (slice_get_within g.nodes n node is)),
    ))

-- a node of a checked graph attaches an exported scope alone
pub node_attaches : (files : List Graph) (file n : ℕ) (node : Node) → AreChecked files → node_of files file n ≡ Some node → AttachesScope files file node.kind
node_attaches files file n node checked found =
    let s = node_scoped files file n node checked found in attaches files file s.0 node.kind s.1 s.2

pub jump_scopes : (files : List Graph) (symbols : List SymbolItem) (scopes : List NodeAt) (next : Config) → AllByRecursion (HoldsScopes files) symbols → AllByRecursion (IsScopeNode files) scopes
    → enter_jump symbols scopes ≡ Some next → HoldScopeNodes files next.stacks × (scope : NodeAt) × (next.spot ≡ spot.At scope) × IsScopeNode files scope
jump_scopes files symbols [] next h k e = absurd (none-some next e)
jump_scopes files symbols (scope ∷ rest) next h k e =
    let is = same_Some (at_node scope (stacks_of symbols rest)) next e in
    (subst (λ (c : Config). HoldScopeNodes files c.stacks) is (h, k.1), scope, ap (λ (c : Config). c.spot) (sym is), k.0)

-- entering a place leaves such scopes alone
pub place_scopes : (files : List Graph) (file : ℕ) (p : Place) (s : Stacks) (next : Config) → AreChecked files → HoldScopeNodes files s → enter_place files file p s ≡ Some next
    → HoldScopeNodes files next.stacks
place_scopes files file place.Root s next checked h e = subst (λ (c : Config). HoldScopeNodes files c.stacks) (same_Some (at_root s) next e) h
place_scopes files file place.Jump s next checked h e = (jump_scopes files s.symbols s.scopes next h.0 h.1 e).0
place_scopes files file (place.At n) s next checked h e =
    option_and_then_some (λ (node : Node). enter_node (node_at file n) node s) (node_of files file n) next e
    (λ node found entered. mapped_scopes files (node_at file n) (enter (action_of file node.kind) s) next
    (λ t is. entered_scopes files file node.kind s t (node_attaches files file n node checked found) h is) entered)

-- and so does a step
pub step_scopes : (files : List Graph) (d next : Config) (e : EdgeAt) → AreChecked files → HoldScopeNodes files d.stacks → step files d e ≡ Some next → HoldScopeNodes files next.stacks
step_scopes files d next e checked h stepped =
    let by = followed_by files d next e stepped in place_scopes files e.file by.edge.sink d.stacks next checked h by.enters

-- paths are cut at an exported scope
scope_cut : (files : List Graph) (node : NodeAt) → IsScopeNode files node → is_cut_of files node.file (place.At node.node) ≡ true
scope_cut files node h = by (slice_get files node.file) refl h
  where
    by : (o : Option Graph) → slice_get files node.file ≡ o → option_map_or (λ (g : Graph). is_exported g.nodes node.node) o false ≡ true → is_cut_of files node.file (place.At node.node) ≡ true
    by None there t = absurd (false≢true t)
    by (Some g) there t =
        cut_of files node.file g (place.At node.node) there ∙ or_left (is_exported g.nodes node.node) (is_turning g.edges node.node) t

cut_place : (files : List Graph) (g : Graph) (file : ℕ) (p : Place) (s : Stacks) (next : Config) → slice_get files file ≡ Some g → HoldScopeNodes files s → enter_place files file p s ≡ Some next
    → is_cut g p ≡ true → is_cut_spot_of files next.spot ≡ true
cut_place files g file place.Root s next there h e cut = ap (is_cut_spot_of files) (root_spot s next e)
cut_place files g file place.Jump s next there h e cut =
    let j = jump_scopes files s.symbols s.scopes next h.0 h.1 e in ap (is_cut_spot_of files) j.2 ∙ scope_cut files j.1 j.3
cut_place files g file (place.At n) s next there h e cut =
    ap (is_cut_spot_of files) (entered_spot files file n s next e) ∙ cut_of files file g (place.At n) there ∙ cut

-- after a cut edge walks start
pub cut_spot : (files : List Graph) (d next : Config) (e : EdgeAt) → HoldScopeNodes files d.stacks → step files d e ≡ Some next → is_cut_edge files e ≡ true
    → is_cut_spot_of files next.spot ≡ true
cut_spot files d next e h stepped cut =
    let by = followed_by files d next e stepped in
    cut_place files by.graph e.file by.edge.sink d.stacks next by.in_files h by.enters (sym (is_cut_edge-found files e by.graph by.edge by.in_files by.in_graph) ∙ cut)
