-- No text is at the path, and each other one is as it was.
use Rattle.std.proofs.Common.{arith}
use Rattle.std.proofs.lemmas.Map.Text.{text_keys}
use Rattle.lsp_texts.proofs.open_texts.OpenTexts.remove.Goals as goal

pub returns : goal.returns
returns c = λ q. grind (arith, text_keys)
