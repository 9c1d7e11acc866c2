use Rattle.std.proofs.Common.{List, ◌++◌, if◌then◌else◌, sym, subst}
use Rattle.version_tree.specs.declared.row.Row.{Row}
use Rattle.lsp_texts.specs.Texts.{texts_in}
use Rattle.row_sets.specs.Rows.{AreInOrder}
use Rattle.lsp_answers.proofs.Referred.{union_if}
use Rattle.lsp_answers.proofs.referring.tell_all.Goals as goal

pub returns : goal.returns
returns c files h =
    union_if files c.args.project.now.root.now (texts_in c.args.project.now.texts.now) c.args.targets c.args.found c.deref.result.now c.args.declaration c.located.result h
    (subst (λ (rows : List Row). AreInOrder (if c.args.declaration then c.args.found ++ c.args.targets else c.args.found) rows) (sym c.deref.ensures.value)
    (subst (λ (all : List Row). AreInOrder all c.in_order-rows.result.items) c.in_ok-with_targets.ensures c.in_order-rows.ensures))
    c.located.ensures
