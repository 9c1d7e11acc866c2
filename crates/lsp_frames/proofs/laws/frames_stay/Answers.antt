use Rattle.std.proofs.Common.{◌∙◌, ap}
use Rattle.lsp_frames.specs.Frames.{is_short}
use Rattle.lsp_frames.proofs.Cuts.{grown, cut-append}
use Rattle.lsp_frames.proofs.laws.frames_stay.Goals as goal

pub returns : goal.returns
returns c input more body rest is = cut-append input more (ap is_short is) ∙ ap (λ c. grown c more) is
