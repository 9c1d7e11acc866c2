use Rattle.std.proofs.Common.{◌∙◌}
use Rattle.stitcher.specs.Plain.{has_scopes}
use Rattle.stitcher.proofs.Plain.{in_front}
use Rattle.stitcher.proofs.matching.any_in_front.Goals as goal

pub returns : goal.returns
returns c =
    c.any_attached.ensures
    ∙ in_front has_scopes c.args.symbols.now c.reversed-items.result.now c.args.count c.saturating_sub.result c.reversed-items.ensures c.saturating_sub.ensures
