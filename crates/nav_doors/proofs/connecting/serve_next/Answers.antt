use Rattle.std.proofs.Common.{◌∷◌, [], refl, ap, ◌∙◌, arith}
use Rattle.nav_io.specs.Told.{append_told}
use Rattle.nav_session.specs.Serving.{standing}
use Rattle.nav_doors.proofs.connecting.serve_next.Goals as goal

-- the connection is the pair that was given out, and the same pair after the session
pub returns-clause-served : goal.returns-clause-served
returns-clause-served g c = record {
  next = record {
    given = (c.in_ok-source.source, c.in_ok-source.sink);
    back = (c.serve_session-status.new.source, c.serve_session-status.new.sink);
    before = standing (g.B.Pins.log c.args.seat.now) c.args.desk.now;
    after = standing (g.B.Pins.log c.serve_session-status.new.board) c.serve_session-status.new.desk;
    status = c.serve_session-status.result;
  };
  served = record {
    session = c.serve_session-status.ensures.served;
    ends = c.serve_session-status.ensures.statuses;
    source_failed = c.serve_session-status.ensures.source_failed;
    sink_failed = c.serve_session-status.ensures.sink_failed;
    unhindered = c.serve_session-status.ensures.unhindered;
    source_count = c.serve_session-status.ensures.source_count;
    sink_count = c.serve_session-status.ensures.sink_count;
  };
  gave = c.done.ensures.given ∙ c.in_ok-source.ensures.ok;
  got_back = c.done.ensures.back ∙ ap (λ w. append_told w ((c.serve_session-status.new.source, c.serve_session-status.new.sink) ∷ [])) c.in_ok-source.ensures.back;
  before = refl;
  after = refl;
  told = refl;
  count = omega (arith, c.in_ok-source.ensures.count, c.done.ensures.count);
}
