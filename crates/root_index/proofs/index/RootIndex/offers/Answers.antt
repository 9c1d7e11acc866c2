use Rattle.root_index.proofs.Seen.{all_offered}
use Rattle.root_index.proofs.index.RootIndex.offers.Goals as goal

pub returns : goal.returns
returns c = all_offered c.args.self.now c.args.view.now c.args._symbols.now c.row_count-count.ensures.rows.order c.requires
