use Rattle.std.proofs.Common.{sym, ◌∙◌, ap, arith, take}
use Rattle.std.specs.Prelude.{slice_get}
use Rattle.std.specs.Ordering.{nat_cmp}
use Rattle.std.specs.Option.{option_cmp}
use Rattle.std.specs.Cmp.Lexicographic.{slice_cmp}
use Rattle.partial_path.specs.Keys.{key, texts}
use Rattle.partial_path.specs.Inside.{asked_key}
use Rattle.partial_path.proofs.KeyOrders.{keys_differ, keys_alike, keys_over, key_short, texts_short}
use Rattle.partial_path.proofs.slots.key_side.Goals as goal

pub returns-then-is_ne : goal.returns-then-is_ne
returns-then-is_ne c =
    keys_differ (key c.args.path.now) (take c.args.count (texts c.args.symbols.now)) c.loop-i.i c.texts_cmp-order.result
    (c.texts_cmp-order.ensures ∙ (λ k. option_cmp (slice_cmp nat_cmp) ((c.asked_at.ensures ∙ ap (λ pats. slice_get (asked_key pats) c.loop-i.i) c.asked-asked.ensures.value) k) (c.symbol_at.ensures k)))
    (sym c.is_ne.ensures ∙ c.if-is_ne.true) c.loop-i.invariant

pub loop-i-preserved : goal.loop-i-preserved
loop-i-preserved c =
    keys_alike (key c.args.path.now) (take c.args.count (texts c.args.symbols.now)) c.loop-i.i c.texts_cmp-order.result
    (c.texts_cmp-order.ensures ∙ (λ k. option_cmp (slice_cmp nat_cmp) ((c.asked_at.ensures ∙ ap (λ pats. slice_get (asked_key pats) c.loop-i.i) c.asked-asked.ensures.value) k) (c.symbol_at.ensures k)))
    (sym c.is_ne.ensures ∙ c.if-is_ne.false) c.loop-i.invariant

pub returns : goal.returns
returns c =
    keys_over (key c.args.path.now) (take c.args.count (texts c.args.symbols.now)) c.loop-i.i (omega (arith, key_short c.args.path.now))
    (omega (arith, texts_short c.args.count c.args.symbols.now c.requires)) c.loop-i.invariant
