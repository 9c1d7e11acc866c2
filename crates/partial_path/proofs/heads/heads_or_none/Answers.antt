use Rattle.partial_path.proofs.HeadOrders.{no_heads}
use Rattle.partial_path.proofs.heads.heads_or_none.Goals as goal

pub returns-in-Err : goal.returns-in-Err
returns-in-Err c = no_heads c.new.result.items c.args.paths.now c.new.ensures.items
