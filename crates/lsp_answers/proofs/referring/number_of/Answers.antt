use Rattle.nav_answers.proofs.Numbers.{number_is}
use Rattle.lsp_answers.proofs.referring.number_of.Goals as goal

pub returns : goal.returns
returns c = number_is c.args.view.now c.args.path.now c.find.result c.row_count-count.ensures.rows.order c.find.ensures
