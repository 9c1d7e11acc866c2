-- The index at hand is that of the head's rows, and the one that is made that of the rows behind the edits.
use Rattle.std.proofs.Common.{◌≡◌, ◌∙◌, List, sym, ap, subst}
use Rattle.std.proofs.lemmas.Result.{IfOk-weaker}
use Rattle.version_tree.specs.Contents.{Numbered}
use Rattle.root_index.specs.Roots.{RootPath, IsIndexOf}
use Rattle.version_board.specs.Ranked.{index_of}
use Rattle.version_board.proofs.Ranked.{index_is, same_index}
use Rattle.version_board.proofs.plain.PlainBoard.index_after.Goals as goal

pub amended-requires-clause-index : goal.amended-requires-clause-index
amended-requires-clause-index c =
    subst (λ (ps : List RootPath). IsIndexOf c.deref-2.result.now.content.rows ps)
    (sym (c.deref.ensures ∙ (c.self.invariant.1 ∙ ap (λ (v : Numbered). index_of v.content.rows) (sym c.deref-2.ensures))))
    (index_is c.deref-2.result.now.content.rows)

pub returns : goal.returns
returns c =
    IfOk-weaker c.amended.result (IsIndexOf c.args.next.now.content.rows) (λ (index : List RootPath). index ≡ index_of c.args.next.now.content.rows)
    (λ index h. same_index c.rows_have_one_index.ensures c.args.next.now.content.rows index c.row_count.ensures.rows.order h) c.amended.ensures
