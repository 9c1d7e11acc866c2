use Rattle.version_tree.specs.Graphs.{graph_rows}
use Rattle.nav_answers.specs.Replies.{IsDefineReply}
use Rattle.lsp_answers.proofs.Asked.{in_usual}
use Rattle.lsp_answers.proofs.querying.define_at.Goals as goal

pub returns : goal.returns
returns c h =
    in_usual IsDefineReply (graph_rows c.args.view.now) c.usual.result c.as_str.result.now _ c.at.result _ c.define.result
    c.usual.ensures.edges c.usual.ensures.depth c.as_str.ensures.value c.at.ensures (c.define.ensures h)
