use Rattle.std.proofs.Common.{ap, ◌∙◌, sym, Some}
use Rattle.path_join.proofs.CodePast.{past-none, past-some}
use Rattle.path_join.proofs.known.past.Goals as goal

pub returns-then-not-agree : goal.returns-then-not-agree
returns-then-not-agree c = past-none c.args.fixed.now c.args.there.now (sym c.agree.ensures ∙ c.if-not-agree.true)

pub returns : goal.returns
returns c = past-some c.args.fixed.now c.args.there.now (sym c.agree.ensures ∙ c.if-not-agree.false) ∙ ap Some (sym c.rest.ensures)
