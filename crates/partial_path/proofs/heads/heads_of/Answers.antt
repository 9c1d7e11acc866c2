use Rattle.std.proofs.Common.{sym, ◌∙◌, ap, subst, ℕ, ◌+◌, List, length, arith}
use Rattle.std.proofs.lemmas.List.{length_push}
use Rattle.partial_path.specs.Heads.{AreHeadsBelow}
use Rattle.partial_path.proofs.HeadOrders.{heads_more}
use Rattle.partial_path.proofs.heads.heads_of.Goals as goal

pub loop-i-init : goal.loop-i-init
loop-i-init c = (ap length c.in_ok-heads.ensures.items, λ k d low. absurd (omega (arith, low)))

pub loop-i-preserved : goal.loop-i-preserved
loop-i-preserved c = (
  ap length c.in_ok-push.ensures.items ∙ length_push c.loop-i.heads.items c.first_head.result ∙ ap (λ (n : ℕ). n + 1) c.loop-i.invariant.0,
  subst (λ (heads : List ℕ). AreHeadsBelow (c.loop-i.i + 1) heads c.args.paths.now) (sym c.in_ok-push.ensures.items)
      (heads_more c.loop-i.heads.items c.args.paths.now c.loop-i.i c.first_head.result c.at.result c.loop-i.invariant.0
      (omega (arith, c.loop-i-test.true, c.len-i-end.ensures)) c.at.ensures.is c.first_head.ensures c.loop-i.invariant.1),
)

pub returns : goal.returns
returns c = λ same. subst (λ (n : ℕ). AreHeadsBelow n c.loop-i.heads.items c.args.paths.now) (sym c.loop-i.invariant.0 ∙ same) c.loop-i.invariant.1
