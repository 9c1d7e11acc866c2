use Rattle.std.proofs.Common.{subst}
use Rattle.partial_path.specs.declared.bounds.Bounds.{Bounds}
use Rattle.version_tree.specs.Graphs.{graph_rows}
use Rattle.nav_answers.specs.Replies.{IsReferencesOfAnyReply}
use Rattle.lsp_answers.proofs.Asked.{usual_is}
use Rattle.lsp_answers.proofs.referring.refer_to_all.Goals as goal

pub returns-clause-reply : goal.returns-clause-reply
returns-clause-reply g c h =
    subst (λ (bounds : Bounds). IsReferencesOfAnyReply bounds (graph_rows c.args.seen.now) c.args.targets.now c.references_of_any.result)
    (usual_is c.usual.result c.usual.ensures.edges c.usual.ensures.depth) (c.references_of_any.ensures.reply h)
