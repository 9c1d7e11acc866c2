use Rattle.std.proofs.Common.{sym, ◌∙◌, ◌<◌, slice_get, arith}
use Rattle.partial_path.proofs.KeyOrders.{keys_differ, keys_alike}
use Rattle.root_index.proofs.key_heads.heads_order.Goals as goal

pub returns-then-is_ne : goal.returns-then-is_ne
returns-then-is_ne c x y p q few more =
    let low : c.loop-i.i < 6 = omega (arith, c.loop-i-test.true) in
    keys_differ x y c.loop-i.i c.in-Some.order (c.in-Some.ensures.told (slice_get x c.loop-i.i) (slice_get y c.loop-i.i) (p c.loop-i.i low) (q c.loop-i.i low))
    (sym c.is_ne.ensures ∙ c.if-is_ne.true) (c.loop-i.invariant x y p q few more)

pub loop-i-preserved : goal.loop-i-preserved
loop-i-preserved c x y p q few more =
    let low : c.loop-i.i < 6 = omega (arith, c.loop-i-test.true) in
    keys_alike x y c.loop-i.i c.in-Some.order (c.in-Some.ensures.told (slice_get x c.loop-i.i) (slice_get y c.loop-i.i) (p c.loop-i.i low) (q c.loop-i.i low))
    (sym c.is_ne.ensures ∙ c.if-is_ne.false) (c.loop-i.invariant x y p q few more)
