-- What a fault of a graph file, of a module and of a translation tells.
use Rattle.std.specs.Prelude.{Bool, true, false, ℕ, List, Result, Err, ◌≢◌, if◌then◌else◌}
use Rattle.std.proofs.Common.{◌≡◌, refl, sym, ap, ◌∙◌, true≢false}
use Rattle.graph_nodes.specs.Graph.{Graph}
use Rattle.graph_nodes.specs.declared.node.Node.{Node}
use Rattle.graph_nodes.specs.declared.node.Edge.{Edge}
use Rattle.graph_json.specs.declared.fault.GraphTextFault.{GraphTextFault}
use Rattle.graph_json.specs.declared.fault.GraphTextFault.TheVariants as text
use Rattle.py_subset.specs.Layout.{Reads}
use Rattle.py_subset.specs.declared.token.PyFault.{PyFault}
use Rattle.py_subset.specs.declared.token.PyFault.TheVariants as python
use Rattle.py_subset.specs.declared.tree.Module.{Module}
use Rattle.py_graph.specs.Modules.{Translates}
use Rattle.py_graph.specs.declared.fault.TransFault.{TransFault}
use Rattle.py_graph.specs.declared.fault.TransFault.TheVariants as table
use Rattle.index_gate.specs.declared.fault.FileFault.TheVariants.{Text}
use Rattle.index_gate.specs.declared.fault.ReadFault.TheVariants.{File, NoMemory}
use Rattle.index_gate.specs.Graphs.{from_text, from_module, from_table}
use Rattle.index_gate.specs.Indexed.{is_text_memory}
use Rattle.index_gate.specs.Reading.{IsReading, text_fault, module_fault, table_fault}

gives_if : (b : Bool) (why : GraphTextFault) (r : Result (List Node × List Edge) GraphTextFault) → is_text_memory why ≡ b → (why ≢ text.NoMemory → r ≡ Err why) → IsReading (Err (if b then NoMemory else File (Text why))) (from_text r)
gives_if true why r e h = tt
gives_if false why r e h = (ap from_text (h (λ f. true≢false (sym (ap is_text_memory f) ∙ e))), e)

-- a fault that isn't want of memory is the one that is defined
pub text_gives : (why : GraphTextFault) (r : Result (List Node × List Edge) GraphTextFault) → (why ≢ text.NoMemory → r ≡ Err why) → IsReading (Err (text_fault why)) (from_text r)
text_gives why r h = gives_if (is_text_memory why) why r refl h

-- the same of a module
pub module_gives : (path : List ℕ) (why : PyFault) (r : Result Module PyFault) → Reads (Err why) r → IsReading (Err (module_fault why)) (from_module path r)
module_gives path python.NoMemory r h = tt
module_gives path (python.NotAscii n) r h = (ap (from_module path) h, refl)
module_gives path (python.BadIndent n) r h = (ap (from_module path) h, refl)
module_gives path (python.BadToken n) r h = (ap (from_module path) h, refl)
module_gives path (python.Unsupported n) r h = (ap (from_module path) h, refl)
module_gives path (python.Expected n) r h = (ap (from_module path) h, refl)
module_gives path (python.TooDeep n) r h = (ap (from_module path) h, refl)

-- the same of a translation
pub table_gives : (why : TransFault) (r : Result Graph TransFault) → Translates (Err why) r → IsReading (Err (table_fault why)) (from_table r)
table_gives table.NoMemory r h = tt
table_gives table.BadName r h = (ap from_table h, refl)
table_gives (table.TooManyNodes n) r h = (ap from_table h, refl)
table_gives (table.TooManyEdges n) r h = (ap from_table h, refl)
