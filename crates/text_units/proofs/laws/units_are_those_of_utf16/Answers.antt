use Rattle.text_units.proofs.Utf16.{counts_utf16}
use Rattle.text_units.proofs.laws.units_are_those_of_utf16.Goals as goal

pub returns : goal.returns
returns c = counts_utf16
