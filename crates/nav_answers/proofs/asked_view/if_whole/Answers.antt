use Rattle.std.proofs.Common.{◌∙◌, sym}
use Rattle.nav_answers.specs.Sources.{graphs_seen}
use Rattle.nav_answers.proofs.Referred.{whole_known}
use Rattle.nav_answers.proofs.asked_view.if_whole.Goals as goal

pub returns : goal.returns
returns c = whole_known (graphs_seen c.args._view.now) c.args._definitions.now c.args.known (sym c.is_whole.ensures ∙ c.if-not-is_whole.false) c.requires
