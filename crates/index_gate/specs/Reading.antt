-- What reading one document answers, where the work on it ends, and what it adds to a store.
use Rattle.std.specs.Prelude.{if◌then◌else◌, ◌≡◌, ◌⊎◌, ⊤, ℕ, true, false, List, [], ◌∷◌, ◌++◌, Option, None, Some, Result, Ok, Err}
use Rattle.graph_nodes.specs.Graph.{Graph}
use Rattle.graph_json.specs.declared.fault.GraphTextFault.{GraphTextFault}
use Rattle.py_subset.specs.declared.token.PyFault.{PyFault}
use Rattle.py_graph.specs.declared.fault.TransFault.{TransFault}
use Rattle.partial_path.specs.PathSets.{FileRules}
use Rattle.path_store.specs.Documents.{Doc}
use Rattle.path_store.specs.Store.{Kept, kept_of}
use Rattle.index_gate.specs.declared.fault.FileFault.{FileFault}
use Rattle.index_gate.specs.declared.fault.FileFault.TheVariants.{Text, Python, Named}
use Rattle.index_gate.specs.declared.fault.IndexFault.{IndexFault}
use Rattle.index_gate.specs.declared.fault.IndexFault.TheVariants as fault
use Rattle.index_gate.specs.declared.fault.ReadFault.{ReadFault}
use Rattle.index_gate.specs.declared.fault.ReadFault.TheVariants.{File, NoMemory}
use Rattle.index_gate.specs.Indexed.{HasFault, is_memory, is_text_memory, is_python_memory, is_table_memory, IsIndexed, docs_of, has_doc, CountsWalks}

-- an answer is the one that is defined, unless memory ran out
abbrev pub IsReading : Result Graph ReadFault → Result Graph FileFault → Type 0
IsReading (Ok g) there = there ≡ Ok g
IsReading (Err (File why)) there = (there ≡ Err why) × (is_memory why ≡ false)
IsReading (Err NoMemory) there = ⊤

-- where reading a graph file ends with this fault
abbrev pub text_fault : GraphTextFault → ReadFault
text_fault why = if is_text_memory why then NoMemory else File (Text why)

-- where reading a module ends with this fault
abbrev pub module_fault : PyFault → ReadFault
module_fault why = if is_python_memory why then NoMemory else File (Python why)

-- where making a module's graph ends with this fault
abbrev pub table_fault : TransFault → ReadFault
table_fault why = if is_table_memory why then NoMemory else File (Named why)

-- the work ends because of this fault of the document, unless memory ran out
abbrev pub HasNone : Doc → ReadFault → Type 0
HasNone doc (File why) = HasFault doc why × (is_memory why ≡ false)
HasNone doc NoMemory = ⊤

-- the same, with the document's path
abbrev pub Refuses : Doc → IndexFault → Type 0
Refuses doc (fault.BadFile path why) = (doc.path ≡ path) × HasFault doc why × (is_memory why ≡ false)
Refuses doc fault.NoMemory = ⊤

-- the paths that a store keeps for the document, or none where it isn't held
abbrev pub Finds : List Kept → Doc → Option FileRules → Type 0
Finds ks doc None = has_doc (docs_of ks) doc ≡ false
Finds ks doc (Some file) = (has_doc (docs_of ks) doc ≡ true) × IsIndexed (kept_of doc file)

-- a document that is held already adds nothing; another is indexed, and its walks are counted
pub record AddsNone (held : List Doc) (doc : Doc) (old new : List Kept) (before after : ℕ) : Type 0 where
  pub there : has_doc (held ++ docs_of old) doc ≡ true
  pub pairs : new ≡ old
  pub steps : after ≡ before

pub record AddsOne (held : List Doc) (doc : Doc) (old new : List Kept) (before after : ℕ) : Type 0 where
  pub absent : has_doc (held ++ docs_of old) doc ≡ false
  pub file : FileRules
  pub indexed : IsIndexed (kept_of doc file)
  pub pairs : new ≡ old ++ kept_of doc file ∷ []
  pub steps : CountsWalks file before after

-- the document adds nothing, or one to the store
abbrev pub Adds : List Doc → Doc → List Kept → List Kept → ℕ → ℕ → Type 0
Adds held doc old new before after = AddsNone held doc old new before after ⊎ AddsOne held doc old new before after
