-- The session of an editor at one moment.
use Rattle.std.specs.Prelude.{ℕ, Bool, true, false, List, [], take, Option, codes}
use Rattle.version_tree.specs.declared.entry.Entry.{Entry}
use Rattle.version_tree.specs.Contents.{replay, granted_rows}
use Rattle.version_tree.specs.Graphs.{GraphRow, graph_rows}
use Rattle.lsp_wire.specs.Uris.{root_of}
use Rattle.lsp_texts.specs.Texts.{Texts, no_texts}
use Rattle.nav_lsp.specs.declared.phase.Phase.{Phase}
use Rattle.nav_lsp.specs.declared.phase.Phase.TheVariants.{Before, Open, Shut}

-- the user as whom an editor acts
abbrev pub operator : List ℕ
operator = codes "operator"

-- Whether `initialize` and `shutdown` were answered; the root of the project; the last accepted text at each path, where
-- a document is open there; how many entries of the log the session has seen, and how many make the version it pins.
pub record Editing : Type 0 where
  pub phase : Phase
  pub root : List ℕ
  pub texts : Texts
  pub seen : ℕ
  pub pin : ℕ

-- before the first message, where so many entries are seen and pinned
abbrev pub opened : ℕ → Editing
opened head = record { phase = Before; root = []; texts = no_texts; seen = head; pin = head }

-- after `initialize`, which may name the root by a URI
abbrev pub begun : Option (List ℕ) → Editing → Editing
begun uri e = record e { phase = Open; root = root_of uri }

-- after `shutdown`
abbrev pub shut : Editing → Editing
shut e = record e { phase = Shut }

-- whether `shutdown` was answered
abbrev pub is_shut : Phase → Bool
is_shut Before = false
is_shut Open = false
is_shut Shut = true

-- the files of the version that is pinned, as the operator sees them
abbrev pub files_of : List Entry → ℕ → List GraphRow
files_of log pin = graph_rows (granted_rows operator (replay (take pin log)))
