-- A byte stands there.
use Rattle.std.proofs.Common.{◌<◌, ap, ◌∙◌, sym, arith, length}
use Rattle.nav_session.specs.Desks.{moment}
use Rattle.nav_poll.proofs.Turned.{full_by}
use Rattle.nav_poll.proofs.going.look_on.Goals as goal

pub returns-then-some-clause-stands : goal.returns-then-some-clause-stands
returns-then-some-clause-stands g c s h =
    let p = c.args.polled.now in
    let size = ap (λ x. length x.reader.front) c.polled.view_is in
    let some : 0 < length p.reader.front = omega (arith, size, c.polled.invariant.1, c.if-some.true) in
    rw c.end.ensures.ended
    (full_by s (moment (g.B.Pins.seat p.board) (g.B.Pins.log p.board) (g.B.Pins.pin_at p.board) p.desk) p.reader (g.K.Link.left p.link)
    (g.K.Link.held p.link) p.out p.lines p.quit p.ended c.requires.going c.requires.pushed c.requires.not_quit c.requires.full some h p.reader)
