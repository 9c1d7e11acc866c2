use Rattle.back_stitch.proofs.MovedNone.{moved_by_nothing_stays}
use Rattle.back_stitch.proofs.laws.moved_by_nothing_stays.Goals as goal

pub returns : goal.returns
returns c = moved_by_nothing_stays
