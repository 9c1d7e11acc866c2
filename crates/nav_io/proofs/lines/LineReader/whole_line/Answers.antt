-- The line in front is whole.
use Rattle.std.proofs.Common.{refl, drop}
use Rattle.nav_io.proofs.CutLaws.{line_at_front-no_newline}
use Rattle.nav_io.proofs.FrontLaws.{whole_line-is, past_whole_line-is, lines-whole, whole-ended_by}
use Rattle.nav_io.proofs.lines.LineReader.whole_line.Goals as goal

pub returns-in-Some : goal.returns-in-Some
returns-in-Some c =
    let front = drop c.self.inside.start c.self.inside.held.items in
    let ended = c.self.inside.ended in
    let found = rw c.in-Some.is at c.in_ok-found.ensures.found in
    let line = rw c.deref.ensures.value at c.take_line.ensures.line in
    let rest = rw c.deref.ensures.value at c.take_line.ensures.rest in
    rw (← c.self.view_is) (
      (refl, λ _. tt, past_whole_line-is front _ ended found.0 rest),
      record {
        line = whole_line-is front ended _ found.0 line;
        cut = lines-whole front ended _ found.0 line;
        no_newline = line_at_front-no_newline front _ line;
        ended_by = whole-ended_by front ended _ found.0 line;
        short = c.in_ok-found.ensures.short;
        too_long = tt;
        rest = tt;
      },
    )
