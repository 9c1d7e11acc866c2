-- The input has ended.
use Rattle.std.proofs.Common.{ap, ◌∙◌, sym}
use Rattle.nav_session.specs.Desks.{moment}
use Rattle.nav_poll.proofs.Turned.{all_by}
use Rattle.nav_poll.proofs.going.wait_for_line.Goals as goal

pub returns-then-at_end-clause-stands : goal.returns-then-at_end-clause-stands
returns-then-at_end-clause-stands g c s h =
    let p = c.args.polled.now in
    let ended = sym (ap (λ x. x.reader.ended) c.polled.view_is) ∙ sym c.polled.invariant.2 ∙ c.if-at_end.true in
    rw c.end.ensures.ended
    (all_by s (moment (g.B.Pins.seat p.board) (g.B.Pins.log p.board) (g.B.Pins.pin_at p.board) p.desk) p.reader (g.K.Link.left p.link)
    (g.K.Link.held p.link) p.out p.lines p.quit p.ended c.requires.going c.requires.pushed c.requires.not_quit ended (c.requires.at_end ended) h)
