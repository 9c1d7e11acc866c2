use Rattle.nav_session.proofs.AskedAtPin.{asked_at_pin}
use Rattle.nav_session.proofs.laws.queries_are_answered_at_the_pin.Goals as goal

pub returns-clause-session : goal.returns-clause-session
returns-clause-session c = asked_at_pin
