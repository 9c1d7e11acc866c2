-- The replies to the queries, as relations over the graphs that a user sees, each at its path, and over the query
-- alone. Want of memory is no reply: of that no query tells anything.
use Rattle.std.specs.Prelude.{◌≡◌, ℕ, List, [], ◌∷◌, ◌++◌, map, Bool, Option, Some, None, Result, Ok, Err, ok_or, option_map, slice_get, IsTrue, IsSomeAnd, MatchResult, Contains, ◌↔◌}
use Rattle.std.specs.List.{position_from}
use Rattle.std.specs.Option.{option_and_then, option_map_or}
use Rattle.std.specs.Ordering.{is_eq}
use Rattle.graph_nodes.specs.declared.node.Node.{Node}
use Rattle.graph_nodes.specs.declared.node.NodeKind.{NodeKind}
use Rattle.graph_nodes.specs.Graph.{Graph, is_reference_kind, is_definition_kind}
use Rattle.graph_nodes.specs.Whole.{node_of}
use Rattle.stacks_vars.specs.declared.scopes.NodeAt.{NodeAt}
use Rattle.partial_path.specs.declared.bounds.Bounds.{Bounds}
use Rattle.partial_path.specs.Spots.{node_at}
use Rattle.partial_path.specs.Step.{start}
use Rattle.partial_path.specs.Counted.{IsCrowded, HasLimit}
use Rattle.version_tree.specs.declared.row.Answer.{Answer}
use Rattle.version_tree.specs.declared.row.Row.{Row}
use Rattle.version_tree.specs.Contents.{path_cmp}
use Rattle.version_tree.specs.Graphs.{GraphRow}
use Rattle.whole_search.specs.declared.found.Hit.{Hit}
use Rattle.whole_search.specs.Answers.{AreRows, IsRising, IsDefinitionFrom, IsReferenceOf, IsAnyCrowded, HasAnyLimit}
use Rattle.nav_answers.specs.declared.found.At.{At}
use Rattle.nav_answers.specs.declared.found.At.TheVariants as at
use Rattle.nav_answers.specs.declared.found.AskFault.{AskFault}
use Rattle.nav_answers.specs.declared.found.AskFault.TheVariants.{NoFile, NoReference, NoDefinition, Crowded, NoMemory}
use Rattle.nav_answers.specs.Points.{node_meant}

-- the graphs of the files, by number
abbrev pub graphs_in : List GraphRow → List Graph
graphs_in rows = map (λ (row : GraphRow). row.graph) rows

-- the number of the file at the path
abbrev pub number_of : List ℕ → List GraphRow → Option ℕ
number_of path rows = position_from (λ (row : GraphRow). is_eq (path_cmp row.path path)) 0 rows

-- the position of the node of the kind that is meant in the file with that number
abbrev pub meant_in : (NodeKind → Bool) → At → List GraphRow → ℕ → Option ℕ
meant_in kind at rows file =
    option_and_then (λ (row : GraphRow). node_meant kind row.graph.nodes at) (slice_get rows file)

-- the node of the kind that is meant; without the file, and then without the node, the refusal
abbrev pub meant : (NodeKind → Bool) → AskFault → List GraphRow → List ℕ → At → Result NodeAt AskFault
meant kind fault rows path at =
    option_map_or (λ (file : ℕ). ok_or (option_map (node_at file) (meant_in kind at rows file)) fault) (number_of path rows) (Err NoFile)

-- the row of an answer that tells of the node: its file's path, its position, and its span
abbrev pub row_of : List GraphRow → Hit → Row
row_of rows hit = record {
  path = option_map_or (λ (row : GraphRow). row.path) (slice_get rows hit.file) [];
  node = hit.node;
  span = option_and_then (λ (node : Node). node.span) (node_of (graphs_in rows) hit.file hit.node);
}

-- an answer: it has a row for each node with the property, each once in file order, and the flag
pub record IsAnswer (is_row : Hit → Type 0) (has_limit : Type 0) (rows : List GraphRow) (answer : Answer) : Type 0 where
  pub hits : List Hit
  pub exact : AreRows is_row hits
  pub told : answer.rows ≡ map (row_of rows) hits
  pub limit : IsTrue answer.limit ↔ has_limit

-- a reply about a node that is there: crowded exactly where it is due, else the answer
abbrev pub IsReplyAbout : (Hit → Type 0) → Type 0 → Type 0 → List GraphRow → Result Answer AskFault → Type 0
IsReplyAbout is_row has_limit is_crowded rows (Ok answer) = (is_crowded → ⊥) × IsAnswer is_row has_limit rows answer
IsReplyAbout is_row has_limit is_crowded rows (Err fault) = is_crowded × (fault ≡ Crowded)

-- the reply about a reference: its definitions
abbrev pub IsDefinitionReply : Bounds → List GraphRow → NodeAt → Result Answer AskFault → Type 0
IsDefinitionReply bounds rows reference reply =
    IsSomeAnd (start (graphs_in rows) reference)
    (λ c. IsReplyAbout (IsDefinitionFrom bounds (graphs_in rows) c) (HasLimit bounds (graphs_in rows) c) (IsCrowded bounds (graphs_in rows) c) rows reply)

-- the node of a file as one that answers
abbrev pub hit_of : NodeAt → Hit
hit_of node = record { file = node.file; node = node.node }

-- the reply about a definition: the references of which it is one
abbrev pub IsReferenceReply : Bounds → List GraphRow → NodeAt → Result Answer AskFault → Type 0
IsReferenceReply bounds rows definition reply =
    IsReplyAbout (IsReferenceOf bounds (graphs_in rows) (hit_of definition)) (HasAnyLimit bounds (graphs_in rows)) (IsAnyCrowded bounds (graphs_in rows)) rows reply

-- the reply to `define` at a place of the file with that path
abbrev pub IsDefineReply : Bounds → List GraphRow → List ℕ → At → Result Answer AskFault → Type 0
IsDefineReply bounds rows path at reply =
    MatchResult (meant is_reference_kind NoReference rows path at) (λ node. IsDefinitionReply bounds rows node reply) (λ fault. reply ≡ Err fault)

-- the reply to `references` at a place of the file with that path
abbrev pub IsReferencesReply : Bounds → List GraphRow → List ℕ → At → Result Answer AskFault → Type 0
IsReferencesReply bounds rows path at reply =
    MatchResult (meant is_definition_kind NoDefinition rows path at) (λ node. IsReferenceReply bounds rows node reply) (λ fault. reply ≡ Err fault)

-- the rows that such a reply has: a node that is no definition has no references
abbrev pub rows_found : Result Answer AskFault → Option (List Row)
rows_found (Ok answer) = Some answer.rows
rows_found (Err NoFile) = Some []
rows_found (Err NoReference) = Some []
rows_found (Err NoDefinition) = Some []
rows_found (Err Crowded) = None
rows_found (Err NoMemory) = None

-- the rows are the references of the node that another row names by its path and its position
abbrev pub ReferTo : Bounds → List GraphRow → Row → List Row → Type 0
ReferTo bounds files definition rows =
    (found : Result Answer AskFault) × IsReferencesReply bounds files definition.path (at.Node definition.node) found × (rows_found found ≡ Some rows)

-- the rows are the references of each of the nodes, those of one node after those of the other
abbrev pub ReferToEach : Bounds → List GraphRow → List Row → List Row → Type 0
ReferToEach bounds files [] all = all ≡ []
ReferToEach bounds files (definition ∷ definitions) all =
    (rows more : List Row) × ReferTo bounds files definition rows × ReferToEach bounds files definitions more × (all ≡ rows ++ more)

-- one of the nodes has references that are crowded
abbrev pub IsOneCrowded : Bounds → List GraphRow → List Row → Type 0
IsOneCrowded bounds files definitions =
    (definition : Row) × Contains definitions definition × IsReferencesReply bounds files definition.path (at.Node definition.node) (Err Crowded)

-- the rows are the references of all the nodes, each once in file order
pub record ReferToAny (bounds : Bounds) (files : List GraphRow) (definitions rows : List Row) : Type 0 where
  -- the references of each
  pub all : List Row
  pub each : ReferToEach bounds files definitions all
  -- the rows are the same ones
  pub same : (row : Row) → Contains rows row ↔ Contains all row
  -- in file order
  pub hits : List Hit
  pub rising : IsRising hits
  pub told : rows ≡ map (row_of files) hits

-- the reply about all the nodes
abbrev pub IsReferencesOfAnyReply : Bounds → List GraphRow → List Row → Result (List Row) AskFault → Type 0
IsReferencesOfAnyReply bounds files definitions (Ok rows) = ReferToAny bounds files definitions rows
IsReferencesOfAnyReply bounds files definitions (Err fault) = IsOneCrowded bounds files definitions × (fault ≡ Crowded)
