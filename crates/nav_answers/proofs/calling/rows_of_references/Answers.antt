use Rattle.version_tree.specs.Graphs.{graph_rows}
use Rattle.nav_answers.proofs.Called.{rows_alone, usual_is}
use Rattle.nav_answers.proofs.calling.rows_of_references.Goals as goal

pub returns-in-Ok-clause-reply : goal.returns-in-Ok-clause-reply
returns-in-Ok-clause-reply g c _ =
    rows_alone c.usual.result (graph_rows c.args.seen.now) c.args.node c.in-Ok.answer (usual_is c.usual.result c.usual.ensures.edges c.usual.ensures.depth) c.in-Ok.ensures.reply
