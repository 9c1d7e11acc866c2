-- Bytes were pulled, or the end is met, or nothing came.
use Rattle.std.proofs.Common.{ap, ◌∙◌, sym, subst, drop, Ok, Err}
use Rattle.nav_io.specs.Lines.{HasNoNewline}
use Rattle.nav_session.specs.Desks.{moment}
use Rattle.nav_poll.specs.Polling.{StandsFor, seen}
use Rattle.nav_poll.proofs.Turned.{pulled_by, pull_failed, caught_up_by}
use Rattle.nav_poll.proofs.going.pull.Goals as goal

pub returns-in-Ok-clause-stands : goal.returns-in-Ok-clause-stands
returns-in-Ok-clause-stands g c s h =
    let p = c.polled.inside in
    pulled_by c.in-Ok.went s (moment (g.B.Pins.seat p.board) (g.B.Pins.log p.board) (g.B.Pins.pin_at p.board) p.desk) p.reader c.pull_more.new.reader
    (g.K.Link.left p.link) (g.K.Link.left c.pull_more.new.link) (g.K.Link.held p.link) (g.K.Link.held c.pull_more.new.link)
    (drop p.sent p.out.items) p.lines p.quit p.ended
    (ap (λ x. x.ended) c.polled.view_is ∙ c.requires.going) (ap (λ x. x.out) c.polled.view_is ∙ c.requires.pushed)
    (ap (λ x. x.quit) c.polled.view_is ∙ c.requires.not_quit) (ap (λ x. x.reader.ended) c.polled.view_is ∙ c.requires.not_ended)
    c.in-Ok.ensures.held (λ e. c.in-Ok.ensures.on (ap Ok e)) (λ e. c.in-Ok.ensures.same (ap Ok e))
    (subst (λ x. StandsFor s (seen g.B.Pins.seat g.B.Pins.log g.B.Pins.pin_at g.K.Link.left g.K.Link.held x)) (sym c.polled.view_is) h)

pub returns-in-Ok-clause-caught_up : goal.returns-in-Ok-clause-caught_up
returns-in-Ok-clause-caught_up g c e s h =
    let p = c.polled.inside in
    let there = c.in-Ok.ensures.same (ap Ok e) in
    let line = subst (λ x. HasNoNewline x.reader.front) (sym c.polled.view_is) c.requires.no_newline in
    caught_up_by s (moment (g.B.Pins.seat p.board) (g.B.Pins.log p.board) (g.B.Pins.pin_at p.board) p.desk) c.pull_more.new.reader
    (g.K.Link.left c.pull_more.new.link) (g.K.Link.held c.pull_more.new.link) (drop p.sent p.out.items) p.lines p.quit p.ended
    (ap (λ x. x.ended) c.polled.view_is ∙ c.requires.going) (ap (λ x. x.out) c.polled.view_is ∙ c.requires.pushed)
    (ap (λ x. x.quit) c.polled.view_is ∙ c.requires.not_quit)
    (ap (λ r. r.ended) there.0 ∙ ap (λ x. x.reader.ended) c.polled.view_is ∙ c.requires.not_ended)
    (subst (λ r. HasNoNewline r.front) (sym there.0) line) h

pub returns-in-Err-clause-stands : goal.returns-in-Err-clause-stands
returns-in-Err-clause-stands g c s h =
    let p = c.polled.inside in
    rw (c.end.ensures.ended, c.status.ensures)
    (pull_failed c.in-Err.halt s (moment (g.B.Pins.seat p.board) (g.B.Pins.log p.board) (g.B.Pins.pin_at p.board) p.desk) p.reader
    (g.K.Link.left p.link) (g.K.Link.left c.pull_more.new.link) (g.K.Link.held p.link) (g.K.Link.held c.pull_more.new.link)
    (drop p.sent p.out.items) p.lines p.quit p.ended
    (ap (λ x. x.ended) c.polled.view_is ∙ c.requires.going) (ap (λ x. x.out) c.polled.view_is ∙ c.requires.pushed)
    (ap (λ x. x.quit) c.polled.view_is ∙ c.requires.not_quit) (ap (λ x. x.reader.ended) c.polled.view_is ∙ c.requires.not_ended)
    (subst (λ x. HasNoNewline x.reader.front) (sym c.polled.view_is) c.requires.no_newline)
    c.in-Err.ensures.held c.in-Err.ensures.lost (λ e. c.in-Err.ensures.failed (ap Err e))
    (λ e. c.in-Err.ensures.not_sink (ap Err e)) (λ e. c.in-Err.ensures.not_long (ap Err e))
    (subst (λ x. StandsFor s (seen g.B.Pins.seat g.B.Pins.log g.B.Pins.pin_at g.K.Link.left g.K.Link.held x)) (sym c.polled.view_is) h)
    c.pull_more.new.reader)
