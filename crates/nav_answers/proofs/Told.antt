-- What is known of a reference, told as a reply; and that the node that is meant is of the kind.
use Rattle.std.proofs.Common.{◌≡◌, ◌≢◌, refl, sym, ◌∙◌, ap, subst, ℕ, suc, ◌+◌, List, [], ◌∷◌, map, Bool, true, false, cond, Option, Some, None, IsSomeAnd, Ok, Err, IsTrue, ◌↔◌, slice_get, arith}
use Rattle.std.specs.Prelude.{ok_or}
use Rattle.std.specs.List.{position_from}
use Rattle.std.specs.Option.{option_map, option_map_or, option_and_then}
use Rattle.std.proofs.lemmas.Bool.{and_parts}
use Rattle.std.proofs.lemmas.Option.{none-some, same_Some, slice_get-map}
use Rattle.graph_nodes.specs.declared.node.Node.{Node}
use Rattle.graph_nodes.specs.declared.node.NodeKind.{NodeKind}
use Rattle.graph_nodes.specs.Graph.{Graph, kind_at}
use Rattle.stacks_vars.specs.declared.scopes.NodeAt.{NodeAt}
use Rattle.stitcher.specs.declared.found.StitchFault.{StitchFault}
use Rattle.stitcher.specs.declared.found.StitchFault.TheVariants as stitch
use Rattle.partial_path.specs.declared.config.Config.{Config}
use Rattle.partial_path.specs.declared.bounds.Bounds.{Bounds}
use Rattle.partial_path.specs.Spots.{node_at}
use Rattle.partial_path.specs.Step.{start}
use Rattle.partial_path.specs.Counted.{IsCrowded, HasLimit}
use Rattle.version_tree.specs.declared.row.Answer.{Answer}
use Rattle.version_tree.specs.Contents.{FileRow}
use Rattle.version_tree.specs.Graphs.{GraphRow, graph_rows}
use Rattle.whole_search.specs.declared.found.Hit.{Hit}
use Rattle.whole_search.specs.Answers.{AreDefinitions, IsDefinitionFrom}
use Rattle.nav_answers.specs.declared.found.At.{At}
use Rattle.nav_answers.specs.declared.found.At.TheVariants as at
use Rattle.nav_answers.specs.declared.found.AskFault.{AskFault}
use Rattle.nav_answers.specs.declared.found.AskFault.TheVariants.{NoFile, Crowded, NoMemory}
use Rattle.nav_answers.specs.Faults.{ask_fault}
use Rattle.nav_answers.specs.Points.{has_point, is_there, node_meant}
use Rattle.nav_answers.specs.Replies.{graphs_in, number_of, meant_in, meant, row_of, IsReplyAbout, IsDefinitionReply}
use Rattle.nav_answers.specs.Sources.{graphs_seen}
use Rattle.nav_answers.proofs.Numbers.{same_graphs}

answered : (bounds : Bounds) (gs : List Graph) (rows : List GraphRow) (o : Option Config) (hits : List Hit) (limit : Bool) (answer : Answer)
    → IsSomeAnd o (λ c. AreDefinitions bounds gs c hits) → IsSomeAnd o (λ c. IsTrue limit ↔ HasLimit bounds gs c) → IsSomeAnd o (λ c. IsCrowded bounds gs c → ⊥)
    → answer.rows ≡ map (row_of rows) hits → answer.limit ≡ limit
    → IsSomeAnd o (λ c. IsReplyAbout (IsDefinitionFrom bounds gs c) (HasLimit bounds gs c) (IsCrowded bounds gs c) rows (Ok answer))
answered bounds gs rows None hits limit answer are flag few told same = absurd are
answered bounds gs rows (Some c) hits limit answer are flag few told same =
    (few, record { hits = hits; exact = are; told = told; limit = subst (λ (b : Bool). IsTrue b ↔ HasLimit bounds gs c) (sym same) flag })

-- the definitions that were found are the reply
pub definitions_told : (bounds : Bounds) (view : List FileRow) (node : NodeAt) (hits : List Hit) (limit : Bool) (answer : Answer)
    → IsSomeAnd (start (graphs_seen view) node) (λ c. AreDefinitions bounds (graphs_seen view) c hits)
    → IsSomeAnd (start (graphs_seen view) node) (λ c. IsTrue limit ↔ HasLimit bounds (graphs_seen view) c)
    → IsSomeAnd (start (graphs_seen view) node) (λ c. IsCrowded bounds (graphs_seen view) c → ⊥)
    → answer.rows ≡ map (row_of (graph_rows view)) hits → answer.limit ≡ limit → IsDefinitionReply bounds (graph_rows view) node (Ok answer)
definitions_told bounds view node hits limit answer are flag few told same =
    subst (λ (gs : List Graph). IsSomeAnd (start gs node) (λ c. IsReplyAbout (IsDefinitionFrom bounds gs c) (HasLimit bounds gs c) (IsCrowded bounds gs c) (graph_rows view) (Ok answer)))
    (same_graphs view)
    (answered bounds (graphs_seen view) (graph_rows view) (start (graphs_seen view) node) hits limit answer are flag few told same)

refused : (bounds : Bounds) (gs : List Graph) (rows : List GraphRow) (o : Option Config) → IsSomeAnd o (IsCrowded bounds gs)
    → IsSomeAnd o (λ c. IsReplyAbout (IsDefinitionFrom bounds gs c) (HasLimit bounds gs c) (IsCrowded bounds gs c) rows (Err Crowded))
refused bounds gs rows None h = absurd h
refused bounds gs rows (Some c) h = (h, refl)

-- and so it is that the reference is crowded
pub crowded_told : (bounds : Bounds) (view : List FileRow) (node : NodeAt) → IsSomeAnd (start (graphs_seen view) node) (IsCrowded bounds (graphs_seen view))
    → IsDefinitionReply bounds (graph_rows view) node (Err Crowded)
crowded_told bounds view node h =
    subst (λ (gs : List Graph). IsSomeAnd (start gs node) (λ c. IsReplyAbout (IsDefinitionFrom bounds gs c) (HasLimit bounds gs c) (IsCrowded bounds gs c) (graph_rows view) (Err Crowded)))
    (same_graphs view)
    (refused bounds (graphs_seen view) (graph_rows view) (start (graphs_seen view) node) h)

-- a fault of stitching that isn't told as want of memory is that the reference is crowded
pub was_crowded : (fault : StitchFault) (told : AskFault) → told ≡ ask_fault fault → told ≢ NoMemory → (fault ≡ stitch.Crowded) × (told ≡ Crowded)
was_crowded stitch.Crowded told e h = (refl, e)
was_crowded stitch.NoMemory told e h = absurd (h e)

-- the first element that passes stands at the place that is told
first_passes : {X : Type 0} (p : X → Bool) (xs : List X) (i n : ℕ) → position_from p i xs ≡ Some n
    → (k : ℕ) × (n ≡ i + k) × (x : X) × (slice_get xs k ≡ Some x) × (p x ≡ true)
first_passes p [] i n e = absurd (none-some n e)
first_passes {X} p (x ∷ xs) i n e = by (p x) refl e (λ h. first_passes p xs (i + 1) n h)
  where
    by : (b : Bool) → p x ≡ b → cond b (Some i) (position_from p (i + 1) xs) ≡ Some n
        → (position_from p (i + 1) xs ≡ Some n → (k : ℕ) × (n ≡ (i + 1) + k) × (y : X) × (slice_get xs k ≡ Some y) × (p y ≡ true))
        → (k : ℕ) × (n ≡ i + k) × (y : X) × (slice_get (x ∷ xs) k ≡ Some y) × (p y ≡ true)
    by true t h more = let same : i ≡ n = same_Some i n h in (0, omega arith, x, refl, t)
    by false t h more = let r = more h in let far = r.1 in (suc r.0, omega arith, r.2, r.3, r.4)

-- a node that is meant is of the kind
meant_kind : (kind : NodeKind → Bool) (nodes : List Node) (where_ : At) (n : ℕ) → node_meant kind nodes where_ ≡ Some n → kind_at kind nodes n ≡ true
meant_kind kind nodes (at.Node m) n e = by (kind_at kind nodes m) refl e
  where
    by : (b : Bool) → kind_at kind nodes m ≡ b → cond b (Some m) None ≡ Some n → kind_at kind nodes n ≡ true
    by true t h = ap (kind_at kind nodes) (sym (same_Some m n h)) ∙ t
    by false t h = absurd (none-some n h)
meant_kind kind nodes (at.Point line column) n e =
    let r = first_passes (is_there kind line column) nodes 0 n e in
    let at_n : n ≡ r.0 = let far = r.1 in omega arith in
    ap (λ m. option_map_or (λ (node : Node). kind node.kind) (slice_get nodes m) false) at_n
    ∙ ap (λ o. option_map_or (λ (node : Node). kind node.kind) o false) r.3
    ∙ (and_parts (kind r.2.kind) (option_map_or (has_point line column) r.2.span false) r.4).0

-- whether a node of the files is of the kind
abbrev pub kind_of : (NodeKind → Bool) → List Graph → ℕ → ℕ → Bool
kind_of kind files file n = option_map_or (λ (g : Graph). kind_at kind g.nodes n) (slice_get files file) false

in_row : (kind : NodeKind → Bool) (where_ : At) (o : Option GraphRow) (n : ℕ)
    → option_and_then (λ (row : GraphRow). node_meant kind row.graph.nodes where_) o ≡ Some n
    → option_map_or (λ (g : Graph). kind_at kind g.nodes n) (option_map (λ (row : GraphRow). row.graph) o) false ≡ true
in_row kind where_ None n e = absurd (none-some n e)
in_row kind where_ (Some row) n e = meant_kind kind row.graph.nodes where_ n e

in_file : (kind : NodeKind → Bool) (fault : AskFault) (rows : List GraphRow) (where_ : At) (file : ℕ) (node : NodeAt) (o : Option ℕ)
    → meant_in kind where_ rows file ≡ o → ok_or (option_map (node_at file) o) fault ≡ Ok node → kind_of kind (graphs_in rows) node.file node.node ≡ true
in_file kind fault rows where_ file node None there e = cc
in_file kind fault rows where_ file node (Some n) there e =
    let same : node_at file n ≡ node = cc in
    subst (λ (m : NodeAt). kind_of kind (graphs_in rows) m.file m.node ≡ true) same
    (ap (λ o. option_map_or (λ (g : Graph). kind_at kind g.nodes n) o false) (slice_get-map (λ (row : GraphRow). row.graph) rows file)
    ∙ in_row kind where_ (slice_get rows file) n there)

in_rows : (kind : NodeKind → Bool) (fault : AskFault) (rows : List GraphRow) (where_ : At) (node : NodeAt) (o : Option ℕ)
    → option_map_or (λ (file : ℕ). ok_or (option_map (node_at file) (meant_in kind where_ rows file)) fault) o (Err NoFile) ≡ Ok node
    → kind_of kind (graphs_in rows) node.file node.node ≡ true
in_rows kind fault rows where_ node None e = cc
in_rows kind fault rows where_ node (Some file) e = in_file kind fault rows where_ file node (meant_in kind where_ rows file) refl e

pub meant_is : (kind : NodeKind → Bool) (fault : AskFault) (view : List FileRow) (path : List ℕ) (where_ : At) (node : NodeAt)
    → meant kind fault (graph_rows view) path where_ ≡ Ok node → kind_of kind (graphs_seen view) node.file node.node ≡ true
meant_is kind fault view path where_ node e =
    ap (λ gs. kind_of kind gs node.file node.node) (same_graphs view)
    ∙ in_rows kind fault (graph_rows view) where_ node (number_of path (graph_rows view)) e
