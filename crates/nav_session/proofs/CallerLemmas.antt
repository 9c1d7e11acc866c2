-- What callers of a session need beside its contract.
use Rattle.std.proofs.Common.{◌≡◌, ◌∙◌, ℕ, List, [], Option, None, refl, subst}
use Rattle.version_tree.specs.declared.entry.Entry.{Entry}
use Rattle.version_board.specs.Logs.{Begins}
use Rattle.nav_proto.specs.declared.request.Request.{Request}
use Rattle.nav_proto.specs.declared.reply.Reply.{Reply}
use Rattle.nav_session.specs.Sessions.{Session, IsAnswered}
use Rattle.nav_session.specs.Desks.{Moment, GoesOn, moment}
use Rattle.nav_session.specs.Serving.{Serves}
use Rattle.nav_session.proofs.Longer.{answered_longer}
use Rattle.nav_session.proofs.Seen.{begins_after}
use Rattle.nav_session.proofs.UnderWay.{stops_first}

-- a session that is refused memory before it begins
pub served_nothing : (seat : ℕ) (log : List Entry) (left held : Option (List ℕ)) → Serves seat log log left left held held 5
served_nothing seat log left held = (stops_first (moment seat log 0 (record { store = []; user = None; view = None; keeps = 0 })) left held refl refl).served

-- the reply that is due over a log is due over each longer one
pub answered_later : (seat : ℕ) (log log' : List Entry) (before : Session) (request : Request) (reply : Reply) (after : Session)
    → Begins log log' → IsAnswered seat log before request reply after → IsAnswered seat log' before request reply after
answered_later seat log log' before request reply after (more, e) h =
    subst (λ (l : List Entry). IsAnswered seat l before request reply after) e (answered_longer seat log more before request reply after h)

-- a session that goes on to one moment and from there to another
pub goes_further : (a b c : Moment) → GoesOn a b → GoesOn b c → GoesOn a c
goes_further a b c g h = record {
  seat = h.seat ∙ g.seat;
  begins = begins_after a.log b.log c.log g.begins h.begins;
  keeps = h.keeps ∙ g.keeps;
}
