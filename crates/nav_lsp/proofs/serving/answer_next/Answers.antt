-- No message was read, or none was left.
use Rattle.std.proofs.lemmas.Result.{err_from_is_err_and}
use Rattle.nav_lsp.proofs.Turned.{stops_at, finds_end}
use Rattle.nav_lsp.proofs.serving.answer_next.Goals as goal

pub returns-in_err-body-clause-turn : goal.returns-in_err-body-clause-turn
returns-in_err-body-clause-turn g c =
    let p = err_from_is_err_and c.from_residual.result c.from_residual.ensures.1 in
    stops_at c.from_residual.result c.in_err-body.field-0.0 (g.B.Pins.seat c.args.board.now) (g.B.Pins.log c.args.board.now) (g.B.Pins.pin_at c.args.board.now)
    c.args.editor.now c.args.reader.now c.next_message.new.reader (g.S.Source.left c.args.source.now) (g.S.Source.left c.next_message.new.source)
    (cc (p.1, p.2)) c.in_err-body.ensures.reads

pub returns-in_default-clause-turn : goal.returns-in_default-clause-turn
returns-in_default-clause-turn g c =
    finds_end (g.B.Pins.seat c.args.board.now) (g.B.Pins.log c.args.board.now) (g.B.Pins.pin_at c.args.board.now)
    c.args.editor.now c.args.reader.now c.next_message.new.reader (g.S.Source.left c.args.source.now) (g.S.Source.left c.next_message.new.source)
    (rw c.in_default.is at c.in_ok-body.ensures.reads)
