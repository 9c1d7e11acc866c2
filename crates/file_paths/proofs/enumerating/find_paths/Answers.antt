-- A file whose weight is within the limit isn't heavier.
use Rattle.std.proofs.Common.{arith}
use Rattle.file_paths.specs.declared.fault.TheConstants.{MAX_WEIGHT}
use Rattle.file_paths.proofs.WalkingLaws.{within_limit}
use Rattle.file_paths.proofs.enumerating.find_paths.Goals as goal

pub returns-clause-light : goal.returns-clause-light
returns-clause-light c = within_limit c.args.graph c.in_ok-paths.field-0.weight MAX_WEIGHT c.in_ok-paths.ensures.weight c.in_ok-paths.ensures.light

pub returns-in_err-paths-clause-fewer : goal.returns-in_err-paths-clause-fewer
returns-in_err-paths-clause-fewer c = λ weight is. let few = c.find.ensures.fewer weight is in omega (arith, few, c.requires)

pub returns-clause-fewer : goal.returns-clause-fewer
returns-clause-fewer c = λ weight is. let few = c.find.ensures.fewer weight is in omega (arith, few, c.requires)

pub returns-in_err-file-clause-fewer : goal.returns-in_err-file-clause-fewer
returns-in_err-file-clause-fewer c = λ weight is. let few = c.find.ensures.fewer weight is in omega (arith, few, c.requires)
