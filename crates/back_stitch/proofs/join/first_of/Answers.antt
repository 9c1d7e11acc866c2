-- A path that may end at the definition is kept, or no back list.
use Rattle.std.proofs.Common.{◌∙◌, sym}
use Rattle.back_stitch.proofs.Longer.{stored_moves, moved_held, moved_unkept}
use Rattle.back_stitch.proofs.join.first_of.Goals as goal

pub moved-requires : goal.moved-requires
moved-requires g c =
    stored_moves c.file_zero_moves.ensures (g.P.BackSource.files c.args.source.now) c.args.file c.args.path.now c.requires.sources c.requires.stored c.ranges.file.fits

pub returns-then-is_kept : goal.returns-then-is_kept
returns-then-is_kept g c = λ d there may.
    moved_held (g.P.BackSource.files c.args.source.now) d (c.args.file, c.args.path.now) c.in_ok-moved.moved there c.requires.stored c.in_ok-moved.ensures.moved c.is_kept.ensures.rule may
    (sym c.is_kept.ensures.value ∙ c.if-is_kept.true)

pub returns-else-is_kept : goal.returns-else-is_kept
returns-else-is_kept g c = λ d there may.
    moved_unkept (g.P.BackSource.files c.args.source.now) d (c.args.file, c.args.path.now) c.in_ok-moved.moved there c.requires.stored c.in_ok-moved.ensures.moved c.is_kept.ensures.rule
    (sym c.is_kept.ensures.value ∙ c.if-is_kept.false)
