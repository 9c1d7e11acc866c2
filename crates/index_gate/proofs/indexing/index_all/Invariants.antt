use Rattle.std.specs.Prelude.{take, drop}
use Rattle.index_gate.specs.Indexed.{docs_of}
use Rattle.index_gate.proofs.UnderWay.{IsUnderWay}
use Rattle.index_gate.proofs.indexing.index_all.Given as goal

-- Some documents are done: the store is as it was, and what was added stands beside it.
abbrev pub invariant-loop-doc : goal.invariant-loop-doc
invariant-loop-doc g l =
    IsUnderWay (docs_of l.fn.store) l.fn.docs (take l.doc-index l.fn.docs) (drop l.doc-index l.fn.docs) l.files.items l.fresh l.initial.steps l.steps
