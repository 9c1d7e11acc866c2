-- What is short before the end isn't settled.
use Rattle.std.proofs.Common.{drop}
use Rattle.std.proofs.lemmas.List.{take_rest}
use Rattle.lsp_frames.proofs.Cuts.{short-now}
use Rattle.lsp_frames.proofs.Ahead.{unsettled}
use Rattle.lsp_frames.proofs.reader.FrameReader.settle.Goals as goal

pub returns-clause-unread : goal.returns-clause-unread
returns-clause-unread g c is =
    let reader = c.self.inside in
    let front = drop reader.start reader.held.items in
    let short = rw (take_rest c.deref.result.now reader.start, c.deref.ensures.value) at c.in-Short.ensures in
    absurd (unsettled front reader.ended (short-now c.in-Short.field-0 front short) c.if-self.false (rw (← c.self.view_is) at is))
