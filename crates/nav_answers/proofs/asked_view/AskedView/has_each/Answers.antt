use Rattle.std.proofs.Common.{subst, IfSome, Option}
use Rattle.nav_answers.specs.declared.asked_view.Known.{Known}
use Rattle.nav_answers.specs.Asking.{IsKnown}
use Rattle.nav_answers.specs.Sources.{graphs_seen}
use Rattle.nav_answers.proofs.Referred.{each_seen}
use Rattle.nav_answers.proofs.asked_view.AskedView.has_each.Goals as goal

pub returns-in-Some : goal.returns-in-Some
returns-in-Some c t =
    each_seen c.self.inside.view c.args.self.now c.in-Some.known c.args.bounds c.self.view_is (c.is_each.ensures.within t) (c.is_each.ensures.each t)
    (subst (λ (o : Option Known). IfSome o (IsKnown (graphs_seen c.self.inside.view))) c.in-Some.is c.self.invariant.0)
