use Rattle.std.proofs.Common.{div-mul-le_self}
use Rattle.nav_session.specs.Desks.{shared_cost}
use Rattle.nav_session.proofs.desk.Desk.sharing.Goals as goal

-- what the desks keep together
pub returns-clause-together : goal.returns-clause-together
returns-clause-together c = div-mul-le_self shared_cost c.args.desks
