use Rattle.partial_path.proofs.Tabled.{no_table}
use Rattle.partial_path.proofs.start_table.counts_of.Goals as goal

pub returns-then-size-most : goal.returns-then-size-most
returns-then-size-most c = no_table c.new.result.items c.args.nodes c.args.paths.now c.new.ensures.items
