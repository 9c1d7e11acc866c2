use Rattle.nav_answers.proofs.Alike.{twins_are_found_alike}
use Rattle.nav_answers.proofs.laws.twins_are_found_alike.Goals as goal

pub returns : goal.returns
returns c = twins_are_found_alike
