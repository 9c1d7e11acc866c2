-- The frame in front is that of the text ahead, since it is whole or the end was met.
use Rattle.std.proofs.Common.{◌≡◌, ap, refl, drop, Err, Result}
use Rattle.std.proofs.lemmas.Result.{err_from_is_err_and}
use Rattle.nav_io.specs.Reading.{Reading}
use Rattle.lsp_frames.proofs.Ahead.{told_as, settled_at, body_found, body_short, after_frame, after_error, broken_ahead, long_ahead}
use Rattle.lsp_frames.proofs.reader.FrameReader.next_frame.Goals as goal

-- an error that is passed on is the same error
Err-same : {T E : Type 0} (x y : E) → ◌≡◌ {A = Result T E} (Err x) (Err y) → x ≡ y
Err-same x y e = cc

pub returns-in_err-found : goal.returns-in_err-found
returns-in_err-found g c =
    let p = err_from_is_err_and c.from_residual.result c.from_residual.ensures.1 in
    let search = c.in_err-found.ensures in
    let why = search.found.found in
    rw (p.1, p.2) (
      (refl, λ _. tt, after_error _ _ _ _ _ search.found.finds why),
      record {
        frame = tt;
        short = tt;
        broken = λ e. broken_ahead _ _ _ _ _ search.found.finds why (Err-same _ _ e);
        too_long = λ e. long_ahead _ _ _ _ _ search.found.finds why (Err-same _ _ e);
        unread = search.unread;
        rest = tt;
        count = search.count;
        cause = λ e. search.cause (ap Err (Err-same _ _ e));
      },
    )

pub returns : goal.returns
returns g c =
    let search = c.in_ok-found.ensures in
    let found = c.in_ok-found.found in
    let reader = c.self.inside in
    let mid : Reading = record { front = drop reader.start reader.held.items; ended = reader.ended } in
    let here = rw (← c.self.view_is) at search.found in
    let body = rw c.deref.ensures.value at c.take_body.ensures.body in
    let rest = rw c.deref.ensures.value at c.take_body.ensures.rest in (
      (refl, λ _. tt, after_frame _ mid found _ _ _ _ here.finds here.found body rest),
      record {
        frame = told_as _ mid _ _ _ here.finds (settled_at found mid here.found) (rw body (body_found found mid here.found));
        short = body_short found mid _ here.found body;
        broken = λ e. cc;
        too_long = λ e. cc;
        unread = search.unread;
        rest = tt;
        count = search.count;
        cause = λ e. cc;
      },
    )
