use Rattle.end_index.proofs.Among.{sources_of}
use Rattle.nav_answers.proofs.viewed.are_sources.Goals as goal

pub returns : goal.returns
returns c = sources_of c.args.view.now c.row_count.ensures.rows.sets
