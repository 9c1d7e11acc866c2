use Rattle.back_stitch.proofs.LookUps.{from_first}
use Rattle.back_stitch.proofs.plain.first_end.Goals as goal

pub returns : goal.returns
returns c = λ files. from_first files c.args.spot
