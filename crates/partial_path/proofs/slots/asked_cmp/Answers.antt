use Rattle.std.proofs.Common.{sym, ◌∙◌, arith}
use Rattle.std.specs.Ordering.{nat_cmp}
use Rattle.std.specs.Option.{option_cmp}
use Rattle.std.specs.Cmp.Lexicographic.{slice_cmp}
use Rattle.partial_path.specs.Inside.{asked_key}
use Rattle.partial_path.proofs.KeyOrders.{keys_differ, keys_alike, keys_over, asked_short}
use Rattle.partial_path.proofs.slots.asked_cmp.Goals as goal

pub returns-then-is_ne : goal.returns-then-is_ne
returns-then-is_ne c =
    keys_differ (asked_key c.args.a.now) (asked_key c.args.b.now) c.loop-i.i c.texts_cmp-order.result
    (c.texts_cmp-order.ensures ∙ (λ k. option_cmp (slice_cmp nat_cmp) (c.asked_at.ensures k) (c.asked_at-in-loop-i.ensures k)))
    (sym c.is_ne.ensures ∙ c.if-is_ne.true) c.loop-i.invariant

pub loop-i-preserved : goal.loop-i-preserved
loop-i-preserved c =
    keys_alike (asked_key c.args.a.now) (asked_key c.args.b.now) c.loop-i.i c.texts_cmp-order.result
    (c.texts_cmp-order.ensures ∙ (λ k. option_cmp (slice_cmp nat_cmp) (c.asked_at.ensures k) (c.asked_at-in-loop-i.ensures k)))
    (sym c.is_ne.ensures ∙ c.if-is_ne.false) c.loop-i.invariant

pub returns : goal.returns
returns c =
    keys_over (asked_key c.args.a.now) (asked_key c.args.b.now) c.loop-i.i (omega (arith, asked_short c.args.a.now)) (omega (arith, asked_short c.args.b.now)) c.loop-i.invariant
