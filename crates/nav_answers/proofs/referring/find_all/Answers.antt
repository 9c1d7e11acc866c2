use Rattle.std.proofs.Common.{ap, subst, sym, Err}
use Rattle.nav_answers.specs.declared.asked_view.Told.{Told}
use Rattle.nav_answers.specs.Asking.{IsHeld, IsTold}
use Rattle.nav_answers.specs.Sources.{graphs_seen}
use Rattle.nav_answers.proofs.Referred.{table_is}
use Rattle.nav_answers.proofs.referring.find_all.Goals as goal

pub returns-in-Ok-clause-known : goal.returns-in-Ok-clause-known
returns-in-Ok-clause-known g c =
    table_is c.args.query.now.bounds (graphs_seen c.args.query.now.view.now) (IsHeld c.in-Ok.parts.whole c.args.query.now.definitions.now) c.in-Ok.parts.list c.in-Ok.parts.limit c.in-Ok.ensures.found

pub returns-in_ok-told_of-in-Err-clause-known : goal.returns-in_ok-told_of-in-Err-clause-known
returns-in_ok-told_of-in-Err-clause-known g c =
    subst (λ (told : Told). IsTold c.args.query.now.bounds (graphs_seen c.args.query.now.view.now) c.args.query.now.definitions.now told) (sym c.in_ok-told_of-in-Err.ensures.told)
    (c.in-Err.ensures.crowded (ap (λ x. Err x) c.in_ok-told_of-in-Err.ensures.definite))
