use Rattle.std.proofs.Common.{◌≡◌, length}
use Rattle.json_values.proofs.Fitting.{all_fit}
use Rattle.json_values.proofs.checking.all_fit.Given as goal

abbrev pub invariant-loop-token : goal.invariant-loop-token
invariant-loop-token l = all_fit l.initial.reader ≡ all_fit l.reader

abbrev pub decreases-loop-token : goal.decreases-loop-token
decreases-loop-token l = length l.reader
