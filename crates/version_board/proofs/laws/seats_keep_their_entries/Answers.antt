use Rattle.version_board.proofs.Machines.{core_law}
use Rattle.version_board.proofs.laws.seats_keep_their_entries.Goals as goal

pub returns : goal.returns
returns g c = core_law g.E.Exchange.is_due
