use Rattle.std.proofs.Common.{rules, length, ◌∙◌, ap, sym}
use Rattle.lsp_answers.specs.Documents.{path_under}
use Rattle.nav_lsp.proofs.Put.{has_put}
use Rattle.nav_lsp.proofs.committing.put.Goals as goal

-- the text was put and is kept, where it was accepted
pub returns : goal.returns
returns g c = record {
  put = record {
    goes_on = search rules;
    told =
        has_put (g.B.Pins.seat c.args.board.now) (g.B.Pins.log c.commit.new.board)
        (length (g.B.Pins.log c.args.board.now)) (g.B.Pins.pin_at c.args.board.now)
        (length (g.B.Pins.log c.commit.new.board)) (g.B.Pins.pin_at c.commit.new.board)
        c.args.editor.now c.forget_view.new.self c.make_room.new.self c.put_if.new.texts c.commit.new.desk c.args.uri.now c.in-Some.path c.args.text c.in_ok-accepted.accepted
        (sym c.in-Some.is ∙ c.in_ok-path.ensures ∙ ap (λ root. path_under root c.args.uri.now) c.deref.ensures.value)
        c.in_ok-make_room.ensures.same c.forget_view.ensures
        (rw (c.in_ok-copy.ensures, c.in_ok-of.ensures, c.as_str.ensures.value) at c.in_ok-accepted.ensures.committed)
        (rw (c.as_str-3.ensures.value, c.in_ok-kept.ensures) at c.put_if.ensures);
    ready = search rules;
    none = search rules;
  };
}
