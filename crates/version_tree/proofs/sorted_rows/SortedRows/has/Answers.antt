use Rattle.std.proofs.Common.{ℕ, ◌≡◌, Result, Ok, Err, IfOk, IfErr, sym, ◌∙◌, List}
use Rattle.std.specs.Result.{is_ok}
use Rattle.version_tree.specs.Contents.{FileRow, IsInOrder, has_path}
use Rattle.list_facts.specs.Places.{IsAt, IsGapFor}
use Rattle.version_tree.specs.Places.{beside}
use Rattle.version_tree.proofs.Found as found
use Rattle.version_tree.proofs.sorted_rows.SortedRows.has.Goals as goal

answers : (path : List ℕ) (rows : List FileRow) (r : Result ℕ ℕ) → IsInOrder rows → IfOk r (IsAt (beside path) rows) → IfErr r (IsGapFor (beside path) rows) → is_ok r ≡ has_path path rows
answers path rows (Ok i) up at gap = sym (found.at-has path rows i at)
answers path rows (Err i) up at gap = sym (found.gap-has path rows i gap)

pub returns : goal.returns
returns c = c.is_ok.ensures.value ∙ answers c.args.path.now c.args.self.now c.find.result c.find.ensures.rows.order c.find.ensures.found c.find.ensures.absent
