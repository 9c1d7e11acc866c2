use Rattle.partial_path.proofs.FileNumberLaws.{file_zero_moves}
use Rattle.partial_path.proofs.moving.file_zero_moves.Goals as goal

pub returns : goal.returns
returns c = file_zero_moves
