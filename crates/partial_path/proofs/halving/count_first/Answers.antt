use Rattle.std.proofs.Common.{sym, arith, true, false}
use Rattle.partial_path.proofs.Points.{between_all, between_up, between_down, between_end}
use Rattle.partial_path.proofs.halving.count_first.Goals as goal

pub loop-low-init : goal.loop-low-init
loop-low-init g c = (omega arith, omega (arith, c.len-high.ensures), λ p tests parted. between_all p c.args.paths.now c.len-high.result c.len-high.ensures)

pub loop-low-preserved-then-passes : goal.loop-low-preserved-then-passes
loop-low-preserved-then-passes g c =
    let (_, bound, halved) = c.loop-low.invariant in (
      omega (arith, c.middle_of-middle.ensures.high),
      bound,
      λ p tests parted.
          between_up p c.args.paths.now c.loop-low.low c.loop-low.high c.middle_of-middle.result c.at.result
          parted (halved p tests parted) c.middle_of-middle.ensures.high c.at.ensures.is (sym (tests _ true c.if-passes.ensures)),
    )

pub loop-low-preserved : goal.loop-low-preserved
loop-low-preserved g c =
    let (_, bound, halved) = c.loop-low.invariant in (
      c.middle_of-middle.ensures.low,
      omega (arith, bound, c.middle_of-middle.ensures.high),
      λ p tests parted.
          between_down p c.args.paths.now c.loop-low.low c.loop-low.high c.middle_of-middle.result c.at.result
          (halved p tests parted) c.middle_of-middle.ensures.high c.at.ensures.is (sym (tests _ false c.if-passes.ensures)),
    )

pub returns-clause-value : goal.returns-clause-value
returns-clause-value g c = λ p tests parted.
    between_end p c.args.paths.now c.loop-low.low c.loop-low.high (c.loop-low.invariant.2 p tests parted) (omega (arith, c.loop-low-test.false))

pub returns-clause-bound : goal.returns-clause-bound
returns-clause-bound g c = let (rise, bound, _) = c.loop-low.invariant in omega (arith, rise, bound)
