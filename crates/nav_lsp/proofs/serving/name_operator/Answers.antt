-- The operator is named, and nothing else is made of the editor.
use Rattle.std.proofs.Common.{refl}
use Rattle.nav_lsp.proofs.Named.{named}
use Rattle.nav_lsp.proofs.serving.name_operator.Goals as goal

pub returns-clause-begins : goal.returns-clause-begins
returns-clause-begins g c =
    named (g.B.Pins.seat c.args.board.now) (g.B.Pins.seat c.reply_to.new.board) (g.B.Pins.log c.args.board.now) (g.B.Pins.log c.reply_to.new.board)
    (g.B.Pins.pin_at c.args.board.now) (g.B.Pins.pin_at c.reply_to.new.board) c.in_ok-of.field-0 c.args.editor.now
    (record c.args.editor.now { desk = c.reply_to.new.desk }) c.in_ok-reply_to.field-0 c.in_ok-of.ensures c.requires.fresh
    (record { phase = refl; root = refl; texts = refl; view = refl }) c.in_ok-reply_to.ensures.reply
