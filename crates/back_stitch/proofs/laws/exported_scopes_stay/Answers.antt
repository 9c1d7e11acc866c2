use Rattle.back_stitch.proofs.CutFrom.{exported_scopes_stay}
use Rattle.back_stitch.proofs.laws.exported_scopes_stay.Goals as goal

pub returns : goal.returns
returns c = exported_scopes_stay
