-- What was found in the words is what they are.
use Rattle.nav_serve.specs.Words.{command_of, texts}
use Rattle.nav_serve.proofs.Told.{tells_command, tells_status}
use Rattle.nav_serve.proofs.words.command_or_status.Goals as goal

pub returns-clause-command : goal.returns-clause-command
returns-clause-command c =
    tells_command c.command_of.result c.or_status.result (command_of (texts c.args.words.now)) c.command_of.ensures c.or_status.ensures

pub returns-clause-none : goal.returns-clause-none
returns-clause-none c =
    tells_status c.command_of.result c.or_status.result (command_of (texts c.args.words.now)) c.command_of.ensures c.or_status.ensures
