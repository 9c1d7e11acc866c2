use Rattle.std.proofs.Common.{subst}
use Rattle.nav_answers.specs.declared.asked_view.Told.{Told}
use Rattle.nav_answers.specs.Asking.{IsTold}
use Rattle.nav_answers.specs.Sources.{graphs_seen}
use Rattle.nav_answers.proofs.Referred.{any_crowded_told}
use Rattle.nav_answers.proofs.referring.answer_from.Goals as goal

pub answer_by-requires : goal.answer_by-requires
answer_by-requires c = subst (λ (told : Told). IsTold c.args.known.now.bounds (graphs_seen c.args.view.now) c.args.definitions.now told) c.in-Each.is c.requires

pub returns-in-Crowded-clause-reply : goal.returns-in-Crowded-clause-reply
returns-in-Crowded-clause-reply c _ =
    any_crowded_told c.args.known.now.bounds c.args.view.now c.args.definitions.now
    (subst (λ (told : Told). IsTold c.args.known.now.bounds (graphs_seen c.args.view.now) c.args.definitions.now told) c.in-Crowded.is c.requires)
