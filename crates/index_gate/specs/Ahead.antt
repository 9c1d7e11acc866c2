-- The work on documents, which may be done ahead of its use; no public clause cites this.
use Rattle.std.specs.Prelude.{◌≤◌, ℕ, Option, IfOk, IfErr}
use Rattle.file_paths.specs.Finds.{AddsWalks}
use Rattle.path_store.specs.Documents.{Doc}
use Rattle.path_store.specs.Store.{kept_of}
use Rattle.index_gate.specs.declared.working.Done.{Done}
use Rattle.index_gate.specs.Indexed.{IsIndexed, IsDocWeight}
use Rattle.index_gate.specs.Reading.{HasNone}

-- the work on a document came to this: all paths of its graph or its fault, and the number of walks, which is no more
-- than the document weighs
pub record IsDone (doc : Doc) (done : Done) : Type 0 where
  pub file : IfOk done.found (λ file. IsIndexed (kept_of doc file))
  pub walks : IfOk done.found (λ file. AddsWalks file.graph 0 done.walks)
  pub fault : IfErr done.found (HasNone doc)
  pub few : (weight : ℕ) → IsDocWeight doc weight → done.walks ≤ weight

-- a document, and what came of the work on it, where it was worked on
pub record Work : Type 0 where
  pub doc : Doc
  pub done : Option Done
