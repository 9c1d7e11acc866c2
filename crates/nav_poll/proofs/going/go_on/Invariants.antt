use Rattle.std.proofs.Common.{◌≡◌, Some, None, IfSome, IsTrue}
use Rattle.nav_io.specs.Faults.{HasRisen}
use Rattle.nav_session.specs.Desks.{GoesOn}
use Rattle.nav_session.specs.Serving.{ends_session}
use Rattle.nav_poll.specs.Links.{NoneFell}
use Rattle.nav_poll.specs.Polling.{KeepsStarts, seen}
use Rattle.nav_poll.specs.Turns.{work_left}
use Rattle.nav_poll.proofs.Turned.{weight}
use Rattle.nav_poll.proofs.going.go_on.Given as goal

-- It stands for each start for which it stood, and its end tells of a count; once it has ended nothing changes.
abbrev pub invariant-loop-polled : goal.invariant-loop-polled
invariant-loop-polled g l = record {
  stands : KeepsStarts (seen g.B.Pins.seat g.B.Pins.log g.B.Pins.pin_at g.K.Link.left g.K.Link.held l.fn.polled)
      (seen g.B.Pins.seat g.B.Pins.log g.B.Pins.pin_at g.K.Link.left g.K.Link.held l.polled);
  goes_on : GoesOn (seen g.B.Pins.seat g.B.Pins.log g.B.Pins.pin_at g.K.Link.left g.K.Link.held l.fn.polled).now.session
      (seen g.B.Pins.seat g.B.Pins.log g.B.Pins.pin_at g.K.Link.left g.K.Link.held l.polled).now.session;
  counts : NoneFell (g.K.Link.counts l.fn.polled.link) (g.K.Link.counts l.polled.link);
  over : IfSome l.fn.polled.ended (λ status. l.polled ≡ l.fn.polled);
  statuses : l.fn.polled.ended ≡ None → IfSome l.polled.ended (λ status. IsTrue (ends_session status));
  read_failed : l.polled.ended ≡ Some 3 → l.fn.polled.ended ≡ None
      → HasRisen (g.K.Link.counts l.fn.polled.link).read_faults (g.K.Link.counts l.polled.link).read_faults;
  write_failed : l.polled.ended ≡ Some 4 → l.fn.polled.ended ≡ None
      → HasRisen (g.K.Link.counts l.fn.polled.link).write_faults (g.K.Link.counts l.polled.link).write_faults;
}

abbrev pub decreases-loop-polled : goal.decreases-loop-polled
decreases-loop-polled g l = weight l.polled.ended (work_left l.polled)
