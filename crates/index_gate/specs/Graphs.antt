-- The graph of a document, or why it has none. What a document's paths weigh plays no part here.
use Rattle.std.specs.Prelude.{◌≡◌, ◌↔◌, MatchBool, codes, ℕ, eqb, nat_lt, if◌then◌else◌, List, length, Option, None, Some, Result, Ok, Err}
use Rattle.std.specs.List.{ends_with}
use Rattle.graph_nodes.specs.Graph.{Graph}
use Rattle.graph_nodes.specs.declared.node.Node.{Node}
use Rattle.graph_nodes.specs.declared.node.Edge.{Edge}
use Rattle.graph_json.specs.Reading.{graph_from}
use Rattle.graph_json.specs.declared.fault.GraphTextFault.{GraphTextFault}
use Rattle.py_subset.specs.Whole.{parse_of}
use Rattle.py_subset.specs.Texts.{IsRead}
use Rattle.py_subset.specs.declared.token.PyFault.{PyFault}
use Rattle.py_subset.specs.declared.tree.Module.{Module}
use Rattle.py_graph.specs.Modules.{graph_of}
use Rattle.py_graph.specs.declared.fault.TransFault.{TransFault}
use Rattle.path_store.specs.Documents.{Doc}
use Rattle.index_gate.specs.declared.fault.FileFault.{FileFault}
use Rattle.index_gate.specs.declared.fault.FileFault.TheVariants.{UnknownKind, TooLarge, Text, Python, Named}
use Rattle.index_gate.specs.Limits.{max_bytes}
use Rattle.index_gate.specs.declared.kind.DocumentKind.{DocumentKind}
use Rattle.index_gate.specs.declared.kind.DocumentKind.TheVariants.{GraphFile, PythonModule}

-- the kind of the file at a path: a graph file's path ends with `.sg.json`, a Python module's with `.py`
abbrev pub kind_of : List ℕ → Option DocumentKind
kind_of path =
    if ends_with eqb path (codes ".sg.json") then Some GraphFile
    else if ends_with eqb path (codes ".py") then Some PythonModule
    else None

-- the graph that a text reads as
abbrev pub from_text : Result (List Node × List Edge) GraphTextFault → Result Graph FileFault
from_text (Ok parts) = Ok (record { nodes = parts.0; edges = parts.1 })
from_text (Err fault) = Err (Text fault)

-- the graph that the table makes
abbrev pub from_table : Result Graph TransFault → Result Graph FileFault
from_table (Ok g) = Ok g
from_table (Err fault) = Err (Named fault)

-- the graph of the module that a text is
abbrev pub from_module : List ℕ → Result Module PyFault → Result Graph FileFault
from_module path (Ok whole) = from_table (graph_of path whole)
from_module path (Err fault) = Err (Python fault)

-- the graph of the bytes of a document of this kind
unfoldable pub graph_of_kind : DocumentKind → Doc → Result Graph FileFault
graph_of_kind GraphFile doc = from_text (graph_from doc.bytes)
graph_of_kind PythonModule doc = from_module doc.path (parse_of doc.bytes)

-- the graph of a document whose path tells this kind, where its bytes are not too many
abbrev pub graph_told : Option DocumentKind → Doc → Result Graph FileFault
graph_told None doc = Err UnknownKind
graph_told (Some kind) doc =
    if nat_lt max_bytes (length doc.bytes) then Err (TooLarge (length doc.bytes)) else graph_of_kind kind doc

-- the graph of a document: its kind is looked at first, then its size, then its bytes
abbrev pub graph_of_doc : Doc → Result Graph FileFault
graph_of_doc doc = graph_told (kind_of doc.path) doc

-- The same as a relation, which says of a module what it is by the grammar and the rule of the first fault alone.

-- the bytes of a document of this kind are that graph, or have that fault
unfoldable pub HasGraphOfKind : DocumentKind → Doc → Result Graph FileFault → Type 0
HasGraphOfKind GraphFile doc r = r ≡ from_text (graph_from doc.bytes)
HasGraphOfKind PythonModule doc r =
    (m : Result Module PyFault) × IsRead doc.bytes m × (r ≡ from_module doc.path m)

-- a document whose path tells this kind
abbrev pub HasGraphTold : Option DocumentKind → Doc → Result Graph FileFault → Type 0
HasGraphTold None doc r = r ≡ Err UnknownKind
HasGraphTold (Some kind) doc r =
    MatchBool (nat_lt max_bytes (length doc.bytes)) (r ≡ Err (TooLarge (length doc.bytes))) (HasGraphOfKind kind doc r)

-- a document has this graph, or this first fault
abbrev pub HasGraph : Doc → Result Graph FileFault → Type 0
HasGraph doc r = HasGraphTold (kind_of doc.path) doc r

-- a document has one graph or one first fault, and the function above gives it
abbrev pub DocumentsHaveOneGraph : Type 0
DocumentsHaveOneGraph = (doc : Doc) (r : Result Graph FileFault) → HasGraph doc r ↔ (graph_of_doc doc ≡ r)
