use Rattle.std.proofs.Common.{sym}
use Rattle.stitcher.proofs.Plain.{plain_met}
use Rattle.stitcher.proofs.matching.is_met.Goals as goal

pub returns-then-is_plain : goal.returns-then-is_plain
returns-then-is_plain c =
    sym (plain_met c.args.file c.args.path.now c.args.at.now c.requires.begins c.requires.texts (c.is_plain.ensures.few c.if-is_plain.true)
    (c.is_plain.ensures.fixed c.if-is_plain.true) (c.is_plain.ensures.asked c.if-is_plain.true) (c.is_plain.ensures.stack c.if-is_plain.true))
