use Rattle.partial_path.proofs.Tabled.{no_table}
use Rattle.partial_path.proofs.start_table.counts_or_none.Goals as goal

pub returns-in-Err : goal.returns-in-Err
returns-in-Err c = no_table c.new.result.items c.args.nodes c.args.paths.now c.new.ensures.items
