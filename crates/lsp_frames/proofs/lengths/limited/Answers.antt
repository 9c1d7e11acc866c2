use Rattle.std.proofs.Common.{arith, refl}
use Rattle.lsp_frames.specs.Blocks.{number}
use Rattle.lsp_frames.proofs.lengths.limited.Goals as goal

pub returns-then-number-gt-BODY_MAX : goal.returns-then-number-gt-BODY_MAX
returns-then-number-gt-BODY_MAX c = (number c.args.digits.now, refl, omega (arith, c.capped-number.ensures, c.if-number-gt-BODY_MAX.true))
