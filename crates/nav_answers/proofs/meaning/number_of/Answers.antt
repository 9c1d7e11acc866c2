use Rattle.nav_answers.proofs.Numbers.{number_is, number_within}
use Rattle.nav_answers.proofs.meaning.number_of.Goals as goal

pub returns-clause-number : goal.returns-clause-number
returns-clause-number c = number_is c.args.view.now c.args.path.now c.find.result c.row_count-count.ensures.rows.order c.find.ensures

pub returns-clause-inside : goal.returns-clause-inside
returns-clause-inside c = number_within c.args.view.now c.args.path.now c.find.result c.find.ensures
