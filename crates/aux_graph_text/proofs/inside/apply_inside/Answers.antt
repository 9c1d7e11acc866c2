-- A path of file 0 alone is applied there.
use Rattle.std.proofs.Common.{arith}
use Rattle.aux_graph_text.proofs.inside.apply_inside.Goals as goal

pub apply-requires : goal.apply-requires
apply-requires c = (c.file_zero_moves.ensures 0 c.args.path.now (omega arith) c.requires).1
