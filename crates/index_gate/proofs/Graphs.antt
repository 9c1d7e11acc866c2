-- The graph of a document by the grammar is the one that reading with one token of lookahead gives.
use Rattle.std.proofs.Common.{◌≡◌, ◌↔◌, ◌∙◌, Bool, true, false, length, Option, None, Some, Result, Err, refl, ap, sym, ltb, cond, MatchBool}
use Rattle.graph_nodes.specs.Graph.{Graph}
use Rattle.py_subset.specs.Texts.{LookaheadReadsTexts}
use Rattle.py_subset.specs.Whole.{parse_of}
use Rattle.path_store.specs.Documents.{Doc}
use Rattle.index_gate.specs.declared.fault.FileFault.{FileFault}
use Rattle.index_gate.specs.declared.fault.FileFault.TheVariants.{TooLarge}
use Rattle.index_gate.specs.declared.kind.DocumentKind.{DocumentKind}
use Rattle.index_gate.specs.declared.kind.DocumentKind.TheVariants.{GraphFile, PythonModule}
use Rattle.index_gate.specs.Limits.{max_bytes}
use Rattle.index_gate.specs.Graphs.{kind_of, from_module, graph_of_kind, graph_told, HasGraphOfKind, HasGraphTold, DocumentsHaveOneGraph}

of_kind : LookaheadReadsTexts → (kind : DocumentKind) (doc : Doc) (r : Result Graph FileFault) → HasGraphOfKind kind doc r ↔ (graph_of_kind kind doc ≡ r)
unfolding graph_of_kind HasGraphOfKind
of_kind law GraphFile doc r = (λ e. sym e, λ e. sym e)
of_kind law PythonModule doc r = (
  λ h. ap (from_module doc.path) ((law doc.bytes h.0).0 h.1) ∙ sym h.2,
  λ e. (parse_of doc.bytes, (law doc.bytes (parse_of doc.bytes)).1 refl, sym e),
)

within : LookaheadReadsTexts → (kind : DocumentKind) (doc : Doc) (r : Result Graph FileFault) (b : Bool)
    → MatchBool b (r ≡ Err (TooLarge (length doc.bytes))) (HasGraphOfKind kind doc r) ↔ (cond b (Err (TooLarge (length doc.bytes))) (graph_of_kind kind doc) ≡ r)
within law kind doc r true = (λ e. sym e, λ e. sym e)
within law kind doc r false = of_kind law kind doc r

told : LookaheadReadsTexts → (kind : Option DocumentKind) (doc : Doc) (r : Result Graph FileFault) → HasGraphTold kind doc r ↔ (graph_told kind doc ≡ r)
told law None doc r = (λ e. sym e, λ e. sym e)
told law (Some kind) doc r = within law kind doc r (ltb max_bytes (length doc.bytes))

pub one_graph : LookaheadReadsTexts → DocumentsHaveOneGraph
one_graph law doc r = told law (kind_of doc.path) doc r
