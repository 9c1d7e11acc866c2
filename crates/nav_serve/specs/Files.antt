-- What a line that has to be a graph file is answered with.
use Rattle.std.specs.Prelude.{List, ℕ, Option, Some, None, codes, Result, Ok, Err}
use Rattle.graph_nodes.specs.declared.node.Node.{Node}
use Rattle.graph_nodes.specs.declared.node.Edge.{Edge}
use Rattle.graph_nodes.specs.Graph.{Graph}
use Rattle.path_store.specs.Documents.{doc_of}
use Rattle.index_gate.specs.declared.fault.FileFault.{FileFault}
use Rattle.index_gate.specs.Graphs.{graph_of_doc}
use Rattle.nav_proto.specs.declared.reply.Reply.{Reply}
use Rattle.nav_proto.specs.declared.reply.Reply.TheVariants.{BadRequest, BadFile}
use Rattle.nav_session.specs.BadFiles.{file_error}

-- the nodes and edges, or the reply to the document's fault
abbrev pub or_refusal : List ℕ → Result Graph FileFault → Result (List Node × List Edge) Reply
or_refusal path (Ok g) = Ok (g.nodes, g.edges)
or_refusal path (Err fault) = Err (BadFile path (file_error fault))

-- the nodes and edges of the line, read as a document of that path, or the reply that refuses it
abbrev pub graph_line : List ℕ → Option (List ℕ) → Result (List Node × List Edge) Reply
graph_line path None = Err (BadRequest (codes "graph"))
graph_line path (Some line) = or_refusal path (graph_of_doc (doc_of path line))
