use Rattle.std.proofs.Common.{sym, ◌∙◌, ◌<◌, slice_get, take, arith}
use Rattle.partial_path.specs.Keys.{texts}
use Rattle.partial_path.proofs.KeyOrders.{keys_differ, keys_alike}
use Rattle.root_index.proofs.key_heads.heads_side.Goals as goal

pub returns-then-is_ne : goal.returns-then-is_ne
returns-then-is_ne c asked p q few =
    let low : c.loop-i.i < 6 = omega (arith, c.loop-i-test.true) in
    keys_differ asked (take c.args.count (texts c.args.symbols.now)) c.loop-i.i c.in-Some.order
    (c.in-Some.ensures (slice_get asked c.loop-i.i) (p c.loop-i.i low) (q c.loop-i.i low))
    (sym c.is_ne.ensures ∙ c.if-is_ne.true) (c.loop-i.invariant asked p q few)

pub loop-i-preserved : goal.loop-i-preserved
loop-i-preserved c asked p q few =
    let low : c.loop-i.i < 6 = omega (arith, c.loop-i-test.true) in
    keys_alike asked (take c.args.count (texts c.args.symbols.now)) c.loop-i.i c.in-Some.order
    (c.in-Some.ensures (slice_get asked c.loop-i.i) (p c.loop-i.i low) (q c.loop-i.i low))
    (sym c.is_ne.ensures ∙ c.if-is_ne.false) (c.loop-i.invariant asked p q few)
