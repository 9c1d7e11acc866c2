use Rattle.std.proofs.Common.{length}
use Rattle.aux_unit_tests.proofs.shadowed.plain.+shadows.Given as goal

abbrev pub decreases-shadows : goal.decreases-shadows
decreases-shadows l = length l.first.now
