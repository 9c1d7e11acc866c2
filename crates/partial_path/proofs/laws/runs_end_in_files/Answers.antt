use Rattle.partial_path.proofs.Returned.{runs_end_in_files}
use Rattle.partial_path.proofs.laws.runs_end_in_files.Goals as goal

pub returns : goal.returns
returns c = runs_end_in_files
