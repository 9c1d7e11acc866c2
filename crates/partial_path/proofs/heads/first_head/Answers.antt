use Rattle.std.proofs.Common.{refl, ◌∙◌, ap, subst, slice_get}
use Rattle.partial_path.specs.Heads.{IsHeadAt}
use Rattle.partial_path.specs.Inside.{asked_key}
use Rattle.partial_path.proofs.heads.first_head.Goals as goal

pub returns-in-Some : goal.returns-in-Some
returns-in-Some c = subst (IsHeadAt c.head.result) (c.in-Some.ensures ∙ ap (λ pats. slice_get (asked_key pats) 0) c.asked.ensures.value) c.head.ensures

pub returns-in-None : goal.returns-in-None
returns-in-None c = subst (IsHeadAt 0) (c.in-None.ensures ∙ ap (λ pats. slice_get (asked_key pats) 0) c.asked.ensures.value) refl
