use Rattle.std.proofs.Common.{sym, ◌∙◌, ap}
use Rattle.version_board.specs.Logs.{entry}
use Rattle.shared_board.proofs.Adding.{adds_moves}
use Rattle.shared_board.proofs.book.Front.append.Goals as goal

pub compare_exchange-found-requires : goal.compare_exchange-found-requires
compare_exchange-found-requires g c =
    let h = c.args.book.now.head_is in
    let offer = c.plain-offer.ensures in
    let pen = c.no_pen-pen.ensures in
    let draft = c.args.draft.now in (
      ap (λ w. w.tracked) h,
      c.self.invariant.1 ∙ sym (ap (λ w. w.book) h),
      pen.0 ∙ (c.self.invariant.1 ∙ sym (ap (λ w. w.book) h)),
      offer.0,
      rw (ap (λ w. w.key) h, pen.1, offer.1, offer.3) (adds_moves c.self.inside.seen.log (entry draft.seat draft.serial draft.edits.now) c.self.inside.entries (sym c.self.invariant.0)),
    )
