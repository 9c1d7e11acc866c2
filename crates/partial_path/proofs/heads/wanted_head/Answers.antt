use Rattle.std.proofs.Common.{refl, ◌∙◌, subst, arith}
use Rattle.partial_path.specs.Heads.{IsHeadAt}
use Rattle.partial_path.specs.Keys.{texts}
use Rattle.partial_path.proofs.KeyOrders.{get_taken}
use Rattle.partial_path.proofs.heads.wanted_head.Goals as goal

pub returns-in-Some : goal.returns-in-Some
returns-in-Some c = subst (IsHeadAt c.head.result) (c.in-Some.ensures ∙ get_taken (texts c.args.symbols.now) 6 0 (omega arith)) c.head.ensures

pub returns-in-None : goal.returns-in-None
returns-in-None c = subst (IsHeadAt 0) (c.in-None.ensures ∙ get_taken (texts c.args.symbols.now) 6 0 (omega arith)) refl
