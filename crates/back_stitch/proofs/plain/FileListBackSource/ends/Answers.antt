-- All are given that make what is asked for.
use Rattle.back_stitch.specs.Plain.{ends_left}
use Rattle.back_stitch.proofs.LookUps.{agreed_ends}
use Rattle.back_stitch.proofs.plain.FileListBackSource.ends.Goals as goal

pub returns-clause-exact : goal.returns-clause-exact
returns-clause-exact c = agreed_ends c.args.self.now c.args.spot.now (ends_left c.args.self.now c.first_end.result) (c.first_end.ensures c.args.self.now) c.args._symbols.now
