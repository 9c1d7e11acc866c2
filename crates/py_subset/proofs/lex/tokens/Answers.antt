use Rattle.std.proofs.Common.{ℕ, arith, ◌≡◌, ◌<◌, Err, take, length, length-drop, ap, sym, ◌∙◌, List}
use Rattle.std.proofs.lemmas.Result.{err_from_is_err_and}
use Rattle.py_subset.specs.Pieces.{piece_at}
use Rattle.py_subset.specs.Layout as spec
use Rattle.py_subset.proofs.Cut.{turn, stops, passes_on}
use Rattle.py_subset.proofs.lex.tokens.Goals as goal

pub returns-in_err-take : goal.returns-in_err-take
returns-in_err-take c =
    let bs = c.args.text.now in
    let piece = c.piece_at-piece.result in
    let bytes = c.front.ensures ∙ ap (take piece.len) c.rest_from-rest.ensures in
    let is = c.piece_at-piece.ensures.exact ∙ ap piece_at c.rest_from-rest.ensures in
    let p = err_from_is_err_and c.from_residual-in_err-take.result c.from_residual-in_err-take.ensures.1 in
    let q = passes_on c.in_err-take.field-0.0 _ _ (spec.tokens_of bs) c.in_err-take.ensures (λ f e.
    stops _ piece c.loop-at.place bs c.loop-at.at c.loop-at.reading f _ (omega arith) is c.piece_at-piece.ensures.within.some (ap (λ (b : List ℕ). spec.step piece.kind b c.loop-at.place c.loop-at.reading) (sym bytes) ∙ e) c.loop-at.invariant.same) in
    let eq : c.from_residual-in_err-take.result ≡ Err c.in_err-take.field-0.0 = cc (p.1, p.2) in
    rw eq q

pub loop-at-preserved : goal.loop-at-preserved
loop-at-preserved c =
    let bs = c.args.text.now in
    let piece = c.piece_at-piece.result in
    let bytes = c.front.ensures ∙ ap (take piece.len) c.rest_from-rest.ensures in
    let is = c.piece_at-piece.ensures.exact ∙ ap piece_at c.rest_from-rest.ensures in
    let within : c.loop-at.at < length bs = omega arith in
    let rest_len = ap length c.rest_from-rest.ensures ∙ length-drop c.loop-at.at bs in
    record {
      same = turn _ piece c.loop-at.place c.past-place.result bs c.loop-at.at c.loop-at.reading c.take.new.self _ within is c.piece_at-piece.ensures.within.some c.past-place.ensures.exact
          (ap (λ (b : List ℕ). spec.step piece.kind b c.loop-at.place c.loop-at.reading) (sym bytes) ∙ c.in_ok-take.ensures) c.loop-at.invariant.same;
      within = omega (arith, rest_len, c.piece_at-piece.ensures.within.within);
      room = omega (arith, c.past-place.ensures.sum, c.loop-at.invariant.room);
    }
