use Rattle.back_stitch.proofs.OnlyCut.{cuts_from_are_unique}
use Rattle.back_stitch.proofs.laws.cuts_from_are_unique.Goals as goal

pub returns : goal.returns
returns c = cuts_from_are_unique
