use Rattle.std.proofs.Common.{refl, Some}
use Rattle.root_index.proofs.Seen.{number_few, number_is}
use Rattle.root_index.proofs.file_numbers.number_in.Goals as goal

pub returns-then-is_row-clause-value : goal.returns-then-is_row-clause-value
returns-then-is_row-clause-value c =
    number_is c.args.view.now c.args.path.now (Some c.args.near) c.row_count-count.ensures.rows.order (c.if-is_row.ensures refl)

pub returns-then-is_row-clause-few : goal.returns-then-is_row-clause-few
returns-then-is_row-clause-few c =
    number_few c.args.view.now c.args.path.now (Some c.args.near) c.row_count-count.ensures.few (c.if-is_row.ensures refl)

pub returns-clause-value : goal.returns-clause-value
returns-clause-value c = number_is c.args.view.now c.args.path.now c.find.result c.row_count-count.ensures.rows.order c.find.ensures

pub returns-clause-few : goal.returns-clause-few
returns-clause-few c = number_few c.args.view.now c.args.path.now c.find.result c.row_count-count.ensures.few c.find.ensures
