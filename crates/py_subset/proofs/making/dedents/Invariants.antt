use Rattle.std.proofs.Common.{◌≡◌, ◌++◌}
use Rattle.std.specs.Prelude.{replicate}
use Rattle.py_subset.specs.Layout as spec
use Rattle.py_subset.specs.declared.token.Mark.TheVariants.{Dedent}
use Rattle.py_subset.proofs.making.dedents.Given as goal

abbrev pub invariant-loop-i : goal.invariant-loop-i
invariant-loop-i l = l.tokens ≡ l.fn.tokens ++ replicate l.i (spec.token Dedent l.line)
