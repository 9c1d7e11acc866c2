-- A line was answered, or none.
use Rattle.std.proofs.Common.{◌≡◌, ◌<◌, arith, ap, ◌∙◌, sym, subst, drop, Ok, Err}
use Rattle.nav_session.specs.Desks.{moment}
use Rattle.nav_session.specs.Transcripts.{max_lines}
use Rattle.nav_session.specs.Turns.{Spot, spot}
use Rattle.nav_poll.specs.Polling.{StandsFor, seen}
use Rattle.nav_poll.proofs.Standing.{at}
use Rattle.nav_poll.proofs.Turned.{answered_by, halted_by, quit_by}
use Rattle.nav_poll.proofs.going.turn.Goals as goal

pub returns-then-quit-clause-stands : goal.returns-then-quit-clause-stands
returns-then-quit-clause-stands g c s h =
    let p = c.args.polled.now in
    rw c.end.ensures.ended
    (quit_by s (spot (moment (g.B.Pins.seat p.board) (g.B.Pins.log p.board) (g.B.Pins.pin_at p.board) p.desk) p.reader (g.K.Link.left p.link))
    (g.K.Link.held p.link) p.out p.lines p.quit p.ended c.requires.going c.requires.pushed
    (sym (ap (λ x. x.quit) c.polled.view_is) ∙ c.if-quit.true) h)

pub returns-in-Ok-Some-clause-stands : goal.returns-in-Ok-Some-clause-stands
returns-in-Ok-Some-clause-stands g c s h =
    let p = c.polled.inside in
    let left = g.K.Link.left p.link in
    let old = spot (moment (g.B.Pins.seat p.board) (g.B.Pins.log p.board) (g.B.Pins.pin_at p.board) p.desk) p.reader left in
    let new = spot (moment (g.B.Pins.seat c.take_line.new.board) (g.B.Pins.log c.take_line.new.board) (g.B.Pins.pin_at c.take_line.new.board) c.take_line.new.desk) c.take_line.new.reader left in
    let ended = ap (λ x. x.ended) c.polled.view_is ∙ c.requires.going in
    let none = ap (λ x. x.out) c.polled.view_is ∙ c.requires.pushed in
    let a = rw c.in-Ok-Some.field-0-is at c.in-Ok-Some.ensures.takes left in
    let before = subst (λ x. StandsFor s (seen g.B.Pins.seat g.B.Pins.log g.B.Pins.pin_at g.K.Link.left g.K.Link.held x)) (sym c.polled.view_is) h in
    rw c.take_up.ensures.taken
    (answered_by s old new (g.K.Link.held p.link) (drop p.sent p.out.items) p.lines p.quit p.ended c.in-Ok-Some.step ended none c.if-quit.false
    c.take_up.ensures.few a.0 before)

pub returns-in-Ok-None-clause-stands : goal.returns-in-Ok-None-clause-stands
returns-in-Ok-None-clause-stands g c s h =
    let p = c.polled.inside in
    let left = g.K.Link.left p.link in
    let none = rw c.in-Ok-None.field-0-is at c.in-Ok-None.ensures.takes left in
    let before = subst (λ x. StandsFor s (seen g.B.Pins.seat g.B.Pins.log g.B.Pins.pin_at g.K.Link.left g.K.Link.held x)) (sym c.polled.view_is) h in
    c.wait_for_line.ensures.stands s
    (subst (λ (x : Spot). StandsFor s (at x (g.K.Link.held p.link) (drop p.sent p.out.items) p.lines p.quit p.ended)) (sym none.same) before)

pub returns-in-Err-clause-stands : goal.returns-in-Err-clause-stands
returns-in-Err-clause-stands g c s h =
    let p = c.polled.inside in
    let left = g.K.Link.left p.link in
    let old = spot (moment (g.B.Pins.seat p.board) (g.B.Pins.log p.board) (g.B.Pins.pin_at p.board) p.desk) p.reader left in
    let board = c.take_line.new.board in
    let within : p.lines < max_lines = omega (arith, c.if-polled-ge-MAX_LINES.false) in
    let before = subst (λ x. StandsFor s (seen g.B.Pins.seat g.B.Pins.log g.B.Pins.pin_at g.K.Link.left g.K.Link.held x)) (sym c.polled.view_is) h in
    rw (c.end-in-Err.ensures.ended, c.status.ensures)
    (halted_by c.in-Err.halt s old (g.B.Pins.seat board) (g.B.Pins.log board) (g.B.Pins.pin_at board) c.take_line.new.desk c.clear.new.self c.take_line.new.reader left
    (g.K.Link.held p.link) (drop p.sent p.out.items) p.lines p.quit p.ended
    (ap (λ x. x.ended) c.polled.view_is ∙ c.requires.going) (ap (λ x. x.out) c.polled.view_is ∙ c.requires.pushed) c.if-quit.false
    within (c.in-Err.ensures.takes left) before)
