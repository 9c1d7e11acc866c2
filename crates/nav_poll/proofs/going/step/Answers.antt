-- Some was pushed.
use Rattle.std.proofs.Common.{ap, ◌∙◌, sym, subst, drop, Err}
use Rattle.nav_session.specs.Desks.{moment}
use Rattle.nav_poll.specs.Polling.{StandsFor, seen}
use Rattle.nav_poll.proofs.Turned.{flushed_by, push_failed}
use Rattle.nav_poll.proofs.going.step.Goals as goal

pub returns-in-Ok-On-clause-stands : goal.returns-in-Ok-On-clause-stands
returns-in-Ok-On-clause-stands g c s h =
    let p = c.polled.inside in
    c.turn.ensures.stands s
    (flushed_by s (moment (g.B.Pins.seat p.board) (g.B.Pins.log p.board) (g.B.Pins.pin_at p.board) p.desk) p.reader
    (g.K.Link.left p.link) (g.K.Link.left c.push_rest.new.link) (g.K.Link.held p.link) (g.K.Link.held c.push_rest.new.link)
    (drop p.sent p.out.items) (drop c.push_rest.new.sent p.out.items) p.lines p.quit p.ended
    (ap (λ x. x.ended) c.polled.view_is ∙ c.requires.going) (rw c.deref.ensures.value at c.push_rest.ensures.pushes) c.push_rest.ensures.left
    (subst (λ x. StandsFor s (seen g.B.Pins.seat g.B.Pins.log g.B.Pins.pin_at g.K.Link.left g.K.Link.held x)) (sym c.polled.view_is) h))

pub returns-in-Ok-Waits-clause-stands : goal.returns-in-Ok-Waits-clause-stands
returns-in-Ok-Waits-clause-stands g c s h =
    let p = c.polled.inside in
    flushed_by s (moment (g.B.Pins.seat p.board) (g.B.Pins.log p.board) (g.B.Pins.pin_at p.board) p.desk) p.reader
    (g.K.Link.left p.link) (g.K.Link.left c.push_rest.new.link) (g.K.Link.held p.link) (g.K.Link.held c.push_rest.new.link)
    (drop p.sent p.out.items) (drop c.push_rest.new.sent p.out.items) p.lines p.quit p.ended
    (ap (λ x. x.ended) c.polled.view_is ∙ c.requires.going) (rw c.deref.ensures.value at c.push_rest.ensures.pushes) c.push_rest.ensures.left
    (subst (λ x. StandsFor s (seen g.B.Pins.seat g.B.Pins.log g.B.Pins.pin_at g.K.Link.left g.K.Link.held x)) (sym c.polled.view_is) h)

pub returns-in-Err-clause-stands : goal.returns-in-Err-clause-stands
returns-in-Err-clause-stands g c s h =
    let p = c.polled.inside in
    rw (c.end.ensures.ended, c.status.ensures)
    (push_failed c.in-Err.halt s (moment (g.B.Pins.seat p.board) (g.B.Pins.log p.board) (g.B.Pins.pin_at p.board) p.desk) p.reader
    (g.K.Link.left p.link) (g.K.Link.left c.push_rest.new.link) (g.K.Link.held p.link) (g.K.Link.held c.push_rest.new.link)
    (drop p.sent p.out.items) (drop c.push_rest.new.sent p.out.items) p.lines p.quit p.ended
    (ap (λ x. x.ended) c.polled.view_is ∙ c.requires.going) (rw c.deref.ensures.value at c.push_rest.ensures.pushes) c.push_rest.ensures.left
    (λ e. c.in-Err.ensures.not_source (ap Err e)) (λ e. c.in-Err.ensures.not_long (ap Err e))
    (subst (λ x. StandsFor s (seen g.B.Pins.seat g.B.Pins.log g.B.Pins.pin_at g.K.Link.left g.K.Link.held x)) (sym c.polled.view_is) h))
