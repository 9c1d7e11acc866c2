-- What the parts of a demonstration do; no public clause cites this.
use Rattle.std.specs.Prelude.{◌≡◌, ℕ, List, length, Option, Result, OnOk, OnErr}
use Rattle.version_tree.specs.declared.entry.Entry.{Entry}
use Rattle.version_board.specs.Logs.{Begins}
use Rattle.nav_proto.specs.declared.request.Request.{Request}
use Rattle.nav_proto.specs.declared.reply.Reply.{Reply}
use Rattle.nav_session.specs.declared.halt.Halt.{Halt}
use Rattle.nav_session.specs.Desks.{Moment, session_of, HasItsView}
use Rattle.nav_demo.specs.declared.totals.Totals.{Totals}
use Rattle.nav_demo.specs.Summary.{AreAnswered, Writes, Begun, nothing, totals_after}

-- requests were answered one after the other between these moments
pub record Answered (requests : List Request) (old new : Moment) : Type 0 where
  pub replies : List Reply
  pub each : AreAnswered old.seat new.log (session_of old) requests replies (session_of new)
  pub view : HasItsView new.desk new.log new.pin

-- and these are the totals of the replies, the first one to the query of file 0
pub record Totalled (files : ℕ) (requests : List Request) (old new : Moment) (totals : Totals) : Type 0 where
  pub replies : List Reply
  pub each : AreAnswered old.seat new.log (session_of old) requests replies (session_of new)
  pub view : HasItsView new.desk new.log new.pin
  pub totals_are : totals ≡ totals_after files 0 nothing replies
  pub count : length replies ≡ length requests

-- the summary was written, or this is why it wasn't
pub record Shows (seat : ℕ) (log log' : List Entry) (held held' : Option (List ℕ)) (files start : ℕ) (result : Result (Unit {0}) Halt) : Type 0 where
  pub begins : Begins log log'
  pub ok : OnOk result (Writes seat (length log) log' held held' files start)
  pub err : OnErr result (Begun seat (length log) log' held held' files start)
