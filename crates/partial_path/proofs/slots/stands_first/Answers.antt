use Rattle.std.proofs.Common.{◌≡◌, ◌≤◌, refl, sym, ◌∙◌, ap, length, arith}
use Rattle.std.specs.Prelude.{slice_get}
use Rattle.partial_path.specs.Keys.{key, texts}
use Rattle.partial_path.specs.Inside.{asked_key, meets_text}
use Rattle.partial_path.proofs.KeyOrders.{get_taken}
use Rattle.partial_path.proofs.Offered.{stands_on, stands_not, stands_all}
use Rattle.partial_path.proofs.slots.stands_first.Goals as goal

pub loop-i-init : goal.loop-i-init
loop-i-init c = refl

pub asked_at-requires : goal.asked_at-requires
asked_at-requires c = omega (arith, c.loop-i-test.true, c.min-count.ensures)

pub returns-then-not-is_met : goal.returns-then-not-is_met
returns-then-not-is_met c =
    let low : c.loop-i.i ≤ 5 = omega (arith, c.loop-i-test.true, c.min-count.ensures) in
    let met = c.is_met.ensures ∙ (λ k. meets_text ((c.asked_at.ensures ∙ ap (λ pats. slice_get (asked_key pats) c.loop-i.i) c.asked-asked.ensures.value) k)
    ((c.symbol_at.ensures ∙ get_taken (texts c.args.symbols.now) 6 c.loop-i.i (omega (arith, low))) k)) in
    sym (stands_not (key c.args.path.now) c.args.symbols.now c.loop-i.i c.loop-i.invariant (sym met ∙ c.if-not-is_met.true))

pub loop-i-preserved : goal.loop-i-preserved
loop-i-preserved c =
    let low : c.loop-i.i ≤ 5 = omega (arith, c.loop-i-test.true, c.min-count.ensures) in
    let met = c.is_met.ensures ∙ (λ k. meets_text ((c.asked_at.ensures ∙ ap (λ pats. slice_get (asked_key pats) c.loop-i.i) c.asked-asked.ensures.value) k)
    ((c.symbol_at.ensures ∙ get_taken (texts c.args.symbols.now) 6 c.loop-i.i (omega (arith, low))) k)) in
    stands_on (key c.args.path.now) c.args.symbols.now c.loop-i.i c.loop-i.invariant (sym met ∙ c.if-not-is_met.false)

pub returns : goal.returns
returns c =
    let size : length c.asked-asked.result.now ≡ length c.args.path.now.pre.symbols = ap length c.asked-asked.ensures.value in
    sym (stands_all c.args.path.now c.args.symbols.now c.loop-i.i (omega (arith, c.loop-i-test.false, c.min-count.ensures, size)) c.loop-i.invariant)
