-- The faults of documents, as replies name them. Want of memory is no fault of a document, and no definition of one gives it.
use Rattle.graph_nodes.specs.declared.fault.GraphFault.{GraphFault}
use Rattle.graph_nodes.specs.declared.fault.GraphFault.TheVariants as graph
use Rattle.graph_json.specs.declared.fault.Part.{Part}
use Rattle.graph_json.specs.declared.fault.Part.TheVariants as part
use Rattle.graph_json.specs.declared.fault.GraphTextFault.{GraphTextFault}
use Rattle.graph_json.specs.declared.fault.GraphTextFault.TheVariants as text
use Rattle.py_subset.specs.declared.token.PyFault.{PyFault}
use Rattle.py_subset.specs.declared.token.PyFault.TheVariants as python
use Rattle.py_graph.specs.declared.fault.TransFault.{TransFault}
use Rattle.py_graph.specs.declared.fault.TransFault.TheVariants as table
use Rattle.index_gate.specs.declared.fault.FileFault.{FileFault}
use Rattle.index_gate.specs.declared.fault.FileFault.TheVariants.{UnknownKind, TooLarge, Text, Python, Named, Heavy}
use Rattle.nav_proto.specs.declared.reply.FileError.{FileError}
use Rattle.nav_proto.specs.declared.reply.FileError.TheVariants as file
use Rattle.nav_proto.specs.declared.reply.ShapePart.{ShapePart}
use Rattle.nav_proto.specs.declared.reply.ShapePart.TheVariants as shape

-- the part of a graph file
abbrev pub shape_part : Part → ShapePart
shape_part part.Top = shape.Top
shape_part (part.Node n) = shape.Node n
shape_part (part.Edge n) = shape.Edge n

-- a fault of a graph
abbrev pub graph_error : GraphFault → FileError
graph_error (graph.TooManyNodes n) = file.TooManyNodes n
graph_error (graph.TooManyEdges n) = file.TooManyEdges n
graph_error (graph.BadEnd n) = file.BadEnd n
graph_error (graph.JumpSource n) = file.JumpSource n
graph_error (graph.BadScope n) = file.BadScope n
graph_error graph.NoMemory = file.Json

-- a fault of a graph file
abbrev pub text_error : GraphTextFault → FileError
text_error text.BadJson = file.Json
text_error (text.BadShape part) = file.Shape (shape_part part)
text_error (text.Graph fault) = graph_error fault
text_error text.NoMemory = file.Json
text_error (text.SameName n) = file.SameName n
text_error (text.UnknownName part) = file.UnknownName (shape_part part)

-- a fault of a Python module's text
abbrev pub module_error : PyFault → FileError
module_error (python.NotAscii line) = file.NotAscii line
module_error (python.BadIndent line) = file.BadIndent line
module_error (python.BadToken line) = file.BadToken line
module_error (python.Unsupported line) = file.Unsupported line
module_error (python.Expected line) = file.Expected line
module_error (python.TooDeep line) = file.TooDeep line
module_error python.NoMemory = file.Json

-- a fault of a module's graph
abbrev pub table_error : TransFault → FileError
table_error table.BadName = file.BadName
table_error (table.TooManyNodes n) = file.TooManyNodes n
table_error (table.TooManyEdges n) = file.TooManyEdges n
table_error table.NoMemory = file.Json

-- a fault of a document
abbrev pub file_error : FileFault → FileError
file_error UnknownKind = file.Kind
file_error (TooLarge bytes) = file.Large bytes
file_error (Text fault) = text_error fault
file_error (Python fault) = module_error fault
file_error (Named fault) = table_error fault
file_error (Heavy weight) = file.Heavy weight
