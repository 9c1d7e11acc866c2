-- What a demonstration shows, by how its writing went, and its status.
use Rattle.std.proofs.Common.{◌≡◌, inl, inr, ℕ, List, [], Option, Result, Ok, Err, OnOk, OnErr, refl, sym, append-nil, length}
use Rattle.std.specs.Io.KnownBytes.{append_known}
use Rattle.version_tree.specs.declared.entry.Entry.{Entry}
use Rattle.version_board.specs.Logs.{Begins}
use Rattle.nav_io.specs.Write.{HoldsPrefix}
use Rattle.nav_session.specs.declared.halt.Halt.{Halt}
use Rattle.nav_session.specs.Transcripts.{with_newline}
use Rattle.nav_demo.specs.Summary.{IsSummary, Writes, Begun, Demonstrates}
use Rattle.nav_demo.specs.Inside.{Shows}

-- the whole line is a beginning of it
begun_whole : (seat begin : ℕ) (log : List Entry) (held held' : Option (List ℕ)) (files start : ℕ)
    → Writes seat begin log held held' files start → Begun seat begin log held held' files start
begun_whole seat begin log held held' files start (text, is, holds) =
    inr (text, is, (with_newline text, [], sym (append-nil (with_newline text)), holds))

-- the line was made, and its writing went so
pub wrote : (seat : ℕ) (log log' : List Entry) (held held' : Option (List ℕ)) (files start : ℕ) (text : List ℕ) (r : Result (Unit {0}) Halt)
    → Begins log log' → IsSummary seat (length log) log' files start text
    → OnOk r (held' ≡ append_known held (with_newline text)) → OnErr r (HoldsPrefix held (with_newline text) held')
    → Shows seat log log' held held' files start r
wrote seat log log' held held' files start text (Ok done) begins is ok err = record { begins = begins; ok = (text, is, ok); err = tt }
wrote seat log log' held held' files start text (Err reason) begins is ok err = record { begins = begins; ok = tt; err = inr (text, is, err) }

-- it was written
pub shown_all : (seat : ℕ) (log log' : List Entry) (held held' : Option (List ℕ)) (files start : ℕ)
    → Begins log log' → Writes seat (length log) log' held held' files start → Demonstrates seat log log' held held' files start 0
shown_all seat log log' held held' files start begins whole = record {
  begins = begins;
  whole = λ _. whole;
  begun = begun_whole seat (length log) log' held held' files start whole;
}

-- a demonstration that is refused memory before it begins
pub shown_nothing : (seat : ℕ) (log : List Entry) (held : Option (List ℕ)) (files start : ℕ) → Demonstrates seat log log held held files start 5
shown_nothing seat log held files start = record {
  begins = ([], append-nil log);
  whole = λ e. cc;
  begun = inl refl;
}
