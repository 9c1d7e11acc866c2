use Rattle.std.proofs.Common.{subst, List, Ok}
use Rattle.version_tree.specs.Contents.{FileRow}
use Rattle.version_tree.specs.Graphs.{graph_rows}
use Rattle.nav_answers.specs.declared.found.At.TheVariants as at
use Rattle.lsp_texts.specs.Texts.{texts_in}
use Rattle.lsp_answers.specs.Queries.{AreTargets}
use Rattle.lsp_answers.proofs.Asked.{tells_if}
use Rattle.lsp_answers.proofs.referring.tell_references.Goals as goal

pub returns-in-Ok-clause-told : goal.returns-in-Ok-clause-told
returns-in-Ok-clause-told g c =
    tells_if (graph_rows c.args.seen.now) c.args.project.now.root.now (texts_in c.args.project.now.texts.now) c.args.asked.now.declaration c.args.asked.now.place.now.path
    (at.Point c.args.asked.now.place.now.line c.args.asked.now.place.now.column) c.in-Ok.targets c.tell_found.result
    (subst (λ (rows : List FileRow). AreTargets (graph_rows rows) c.args.asked.now.place.now.path (at.Point c.args.asked.now.place.now.line c.args.asked.now.place.now.column) (Ok c.in-Ok.targets)) c.view.ensures (c.in-Ok.ensures (λ e. cc)))
    (c.tell_found.ensures (graph_rows c.args.seen.now) (rw c.items.ensures at c.refer_to_all-found.ensures.reply))
