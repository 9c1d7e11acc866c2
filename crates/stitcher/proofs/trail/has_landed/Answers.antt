-- Where one of the levels is there, some level is.
use Rattle.std.proofs.Common.{sym, ◌∙◌}
use Rattle.partial_path.specs.Same.{config_eq}
use Rattle.stitcher.proofs.Landed.{any_landed}
use Rattle.stitcher.proofs.trail.has_landed.Goals as goal

pub returns-then-same : goal.returns-then-same
returns-then-same c =
    sym (any_landed (config_eq c.args.at.now) c.args.levels.now c.loop-level.level-index c.level-item.result c.loop-level-test.true c.level-item.is (sym c.same.ensures.eq ∙ c.if-same.true))
