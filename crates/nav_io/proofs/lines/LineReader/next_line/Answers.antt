use Rattle.std.proofs.Common.{arith, ◌≡◌, ◌∙◌, ap, refl, sym, drop, Err, Result, length, true}
use Rattle.std.proofs.lemmas.Result.{err_from_is_err_and}
use Rattle.nav_io.specs.Lines.{line_len}
use Rattle.nav_io.specs.Reading.{reading_of}
use Rattle.nav_io.proofs.CutLaws.{line_at_front-short, line_at_front-no_newline}
use Rattle.nav_io.proofs.ReadingLaws.{line_at_front-ahead, lines-known, line_len-ahead, after_line_of, after_error_of}
use Rattle.nav_io.proofs.lines.LineReader.next_line.Goals as goal

-- an error that is passed on is the same error
Err-same : {T E : Type 0} (x y : E) → ◌≡◌ {A = Result T E} (Err x) (Err y) → x ≡ y
Err-same x y e = cc

pub returns-in_err-len : goal.returns-in_err-len
returns-in_err-len g c =
    let p = err_from_is_err_and c.from_residual.result c.from_residual.ensures.1 in
    let search = c.in_err-len.ensures in
    let old = reading_of c.self.inside.start c.self.inside.held.items c.self.inside.ended in
    let mid = reading_of c.find_line.new.start c.find_line.new.held.items c.find_line.new.ended in
    let left = g.S.Source.left c.args.source.now in
    let left' = g.S.Source.left c.find_line.new.source in
    rw (p.1, p.2, ← c.self.view_is) (
      (refl, λ _. tt, after_error_of old mid left left' _ search.finds search.err search.fault search.too_long search.memory),
      record {
        line = tt;
        cut = tt;
        short = tt;
        no_newline = tt;
        too_long = λ e. line_len-ahead old mid left left' _ search.finds (search.too_long (Err-same _ _ e));
        unread = search.unread;
        rest = tt;
        count = search.count;
        cause = λ e. search.cause (ap Err (Err-same _ _ e));
      },
    )

-- The first line in front is that of the text ahead, since a newline ends it or the end was met.
pub returns : goal.returns
returns g c =
    let search = c.in_ok-len.ensures in
    let old = reading_of c.self.inside.start c.self.inside.held.items c.self.inside.ended in
    let mid = reading_of c.find_line.new.start c.find_line.new.held.items c.find_line.new.ended in
    let left = g.S.Source.left c.args.source.now in
    let left' = g.S.Source.left c.find_line.new.source in
    let end : line_len mid.front ≡ length mid.front → mid.ended ≡ true = λ e. search.end (sym search.ok.0 ∙ e) in
    let line = rw c.deref.ensures.value at c.take_line.ensures.line in
    let rest = rw c.deref.ensures.value at c.take_line.ensures.rest in
    let first = line_at_front-ahead old mid left left' _ search.finds end line in
    rw (← c.self.view_is) (
      (refl, λ _. tt, after_line_of old mid _ left left' _ search.finds end line rest),
      record {
        line = first;
        cut = lines-known _ _ first;
        short = line_at_front-short _ _ _ line (omega (arith, search.ok));
        no_newline = line_at_front-no_newline _ _ line;
        too_long = λ e. cc;
        unread = search.unread;
        rest = tt;
        count = search.count;
        cause = λ e. cc;
      },
    )
