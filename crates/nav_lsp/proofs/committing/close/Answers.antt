use Rattle.std.proofs.Common.{rules, length, ◌∙◌, ap, sym}
use Rattle.lsp_answers.specs.Documents.{path_under}
use Rattle.nav_lsp.proofs.Put.{has_closed}
use Rattle.nav_lsp.proofs.committing.close.Goals as goal

-- the document was removed, where that was accepted
pub returns : goal.returns
returns g c = record {
  closed = record {
    goes_on = search rules;
    told =
        has_closed (g.B.Pins.seat c.args.board.now) (g.B.Pins.log c.commit.new.board)
        (length (g.B.Pins.log c.args.board.now)) (g.B.Pins.pin_at c.args.board.now)
        (length (g.B.Pins.log c.commit.new.board)) (g.B.Pins.pin_at c.commit.new.board)
        c.args.editor.now c.forget_view.new.self c.remove_if.new.texts c.commit.new.desk c.args.uri.now c.in-Some.path c.in_ok-accepted.accepted
        (sym c.in-Some.is ∙ c.in_ok-path.ensures ∙ ap (λ root. path_under root c.args.uri.now) c.deref.ensures.value) c.forget_view.ensures
        (rw c.in_ok-copy.ensures at c.in_ok-accepted.ensures.committed) (rw c.as_str.ensures.value at c.remove_if.ensures);
    ready = search rules;
    none = search rules;
  };
}
