-- What it is for a document to be indexed, and what a caller of `index_all` is told.
use Rattle.std.specs.Prelude.{◌≡◌, ◌⊎◌, ◌+◌, ⊤, ℕ, Bool, true, false, cond, List, [], ◌∷◌, ◌++◌, map, MatchResult, Ok, Err}
use Rattle.std.specs.List.{AllByRecursion, list_any}
use Rattle.graph_nodes.specs.Graph.{Graph}
use Rattle.graph_nodes.specs.declared.fault.GraphFault.{GraphFault}
use Rattle.graph_nodes.specs.declared.fault.GraphFault.TheVariants as graph
use Rattle.graph_json.specs.declared.fault.GraphTextFault.{GraphTextFault}
use Rattle.graph_json.specs.declared.fault.GraphTextFault.TheVariants as text
use Rattle.py_subset.specs.declared.token.PyFault.{PyFault}
use Rattle.py_subset.specs.declared.token.PyFault.TheVariants as python
use Rattle.py_graph.specs.declared.fault.TransFault.{TransFault}
use Rattle.py_graph.specs.declared.fault.TransFault.TheVariants as table
use Rattle.partial_path.specs.PathSets.{FileRules, AreFileRules}
use Rattle.partial_path.specs.Walks.{IsWeight, IsHeavier}
use Rattle.file_paths.specs.Finds.{max_weight, AddsWalks}
use Rattle.path_store.specs.Documents.{Doc, same_doc}
use Rattle.path_store.specs.Store.{Kept, kept_of}
use Rattle.index_gate.specs.declared.fault.FileFault.{FileFault}
use Rattle.index_gate.specs.declared.fault.FileFault.TheVariants.{UnknownKind, TooLarge, Text, Python, Named, Heavy}
use Rattle.index_gate.specs.declared.fault.IndexFault.{IndexFault}
use Rattle.index_gate.specs.declared.fault.IndexFault.TheVariants.{BadFile, NoMemory}
use Rattle.index_gate.specs.Graphs.{graph_of_doc}

-- a document's graph is heavier than a file may be
abbrev pub IsTooHeavy : Doc → Type 0
IsTooHeavy doc = (g : Graph) × (graph_of_doc doc ≡ Ok g) × IsHeavier max_weight g

-- a document has this fault: it has no graph for this reason, or its graph is too heavy
abbrev pub HasFault : Doc → FileFault → Type 0
HasFault doc fault = (graph_of_doc doc ≡ Err fault) ⊎ ((fault ≡ Heavy (max_weight + 1)) × IsTooHeavy doc)

-- whether a fault tells of want of memory; no fault of a document does
abbrev pub is_graph_memory : GraphFault → Bool
is_graph_memory graph.NoMemory = true
is_graph_memory _ = false

-- the same of a fault of a graph's text
abbrev pub is_text_memory : GraphTextFault → Bool
is_text_memory text.NoMemory = true
is_text_memory (text.Graph fault) = is_graph_memory fault
is_text_memory _ = false

-- the same of a fault of a Python text
abbrev pub is_python_memory : PyFault → Bool
is_python_memory python.NoMemory = true
is_python_memory _ = false

-- the same of a fault of a translation
abbrev pub is_table_memory : TransFault → Bool
is_table_memory table.NoMemory = true
is_table_memory _ = false

-- the same of any fault of a file
abbrev pub is_memory : FileFault → Bool
is_memory UnknownKind = false
is_memory (TooLarge n) = false
is_memory (Text fault) = is_text_memory fault
is_memory (Python fault) = is_python_memory fault
is_memory (Named fault) = is_table_memory fault
is_memory (Heavy n) = false

-- a document without a fault, with all paths of its graph
pub record IsIndexed (k : Kept) : Type 0 where
  pub graph : graph_of_doc k.doc ≡ Ok k.paths.graph
  pub light : ¬ IsHeavier max_weight k.paths.graph
  pub paths : AreFileRules k.paths

-- what a store of indexed documents holds
abbrev pub AreIndexed : List Kept → Type 0
AreIndexed = AllByRecursion IsIndexed

-- the files are those of the documents, one for each, in their order
abbrev pub AreFilesOf : List Doc → List FileRules → Type 0
AreFilesOf [] [] = ⊤
AreFilesOf [] (file ∷ files) = ⊥
AreFilesOf (doc ∷ docs) [] = ⊥
AreFilesOf (doc ∷ docs) (file ∷ files) = IsIndexed (kept_of doc file) × AreFilesOf docs files

-- a document without a fault
abbrev pub HasNoFault : Doc → Type 0
HasNoFault doc = (g : Graph) × (graph_of_doc doc ≡ Ok g) × (¬ IsHeavier max_weight g)

-- the first document with a fault has this path, and this is its fault
pub record IsFirstFault (docs : List Doc) (name : List ℕ) (why : FileFault) : Type 0 where
  pub before : List Doc
  pub doc : Doc
  pub after : List Doc
  pub split : docs ≡ before ++ doc ∷ after
  pub clean : AllByRecursion HasNoFault before
  pub path : doc.path ≡ name
  pub fault : HasFault doc why
  pub told : is_memory why ≡ false

-- why there is no answer: the first fault; want of memory is free
abbrev pub HasCause : List Doc → IndexFault → Type 0
HasCause docs (BadFile path fault) = IsFirstFault docs path fault
HasCause docs NoMemory = ⊤

-- the documents that a store keeps
abbrev pub docs_of : List Kept → List Doc
docs_of ks = map (λ (k : Kept). k.doc) ks

-- whether the document is one of these
abbrev pub has_doc : List Doc → Doc → Bool
has_doc docs doc = list_any (λ (other : Doc). same_doc other doc) docs

-- those of the documents that aren't held, each once, in their order
abbrev pub missing : List Doc → List Doc → List Doc
missing held [] = []
missing held (doc ∷ docs) = cond (has_doc held doc) (missing held docs) (doc ∷ missing (held ++ doc ∷ []) docs)

-- the store has what it had, and then the missing documents
abbrev pub AddsMissing : List Doc → List Kept → List Kept → Type 0
AddsMissing docs old new = (added : List Kept) × (new ≡ old ++ added) × (docs_of added ≡ missing (docs_of old) docs)

-- the store has what it had, and then the first of the missing documents, or none
abbrev pub AddsSome : List Doc → List Kept → List Kept → Type 0
AddsSome docs old new =
    (added : List Kept) × (rest : List Doc) × (new ≡ old ++ added) × (docs_of added ++ rest ≡ missing (docs_of old) docs)

-- the counter rises by the number of the file's walks
pub record CountsWalks (file : FileRules) (before after : ℕ) : Type 0 where
  pub walks : AddsWalks file.graph before after

-- the counter rises by the number of all walks of these files
abbrev pub CountsAllWalks : List Kept → ℕ → ℕ → Type 0
CountsAllWalks [] before after = after ≡ before
CountsAllWalks (k ∷ ks) before after = (next : ℕ) × CountsWalks k.paths before next × CountsAllWalks ks next after

-- what a document weighs: as its graph does, and nothing where it has none
abbrev pub IsDocWeight : Doc → ℕ → Type 0
IsDocWeight doc weight = MatchResult (graph_of_doc doc) (λ g. IsWeight g weight) (λ _. weight ≡ 0)

-- what documents weigh together
abbrev pub AreDocWeights : List Doc → ℕ → Type 0
AreDocWeights [] total = total ≡ 0
AreDocWeights (doc ∷ docs) total =
    (weight : ℕ) × (rest : ℕ) × IsDocWeight doc weight × AreDocWeights docs rest × (total ≡ weight + rest)
