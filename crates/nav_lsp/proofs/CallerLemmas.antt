-- What callers of an editor's session need beside its contract.
use Rattle.std.proofs.Common.{ℕ, List, [], length, Option, false, refl, append-nil}
use Rattle.version_tree.specs.declared.entry.Entry.{Entry}
use Rattle.lsp_messages.proofs.UnderWay.{stops_first}
use Rattle.nav_lsp.specs.Transcripts.{IsTold}
use Rattle.nav_lsp.specs.Serving.{ServesEditor}
use Rattle.nav_lsp.proofs.Served.{told_nothing}

-- a session that is refused memory before its first message
pub edited_nothing : (seat : ℕ) (log : List Entry) (left held : Option (List ℕ)) → ServesEditor seat log log left left held held 5
edited_nothing seat log left held = record {
  begins = ([], append-nil log);
  served = stops_first (IsTold seat (length log) log) false left held (told_nothing seat log log ([], append-nil log) refl);
}
