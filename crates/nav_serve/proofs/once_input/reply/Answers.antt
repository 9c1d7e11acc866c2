-- Each way that the two lines can go is a lemma on the whole input.
use Rattle.nav_serve.proofs.Replies.{refused_graph, refused_node, answered_node}
use Rattle.nav_serve.proofs.once_input.reply.Goals as goal

pub returns-in-Err-clause-answers : goal.returns-in-Err-clause-answers
returns-in-Err-clause-answers g c =
    rw c.reply.ensures
    (refused_graph c.in_ok-reader.reader c.read_graph_line.new.reader (g.S.Source.left c.args.source.now)
    (g.S.Source.left c.read_graph_line.new.source) c.in-Err.refused c.in_ok-reader.ensures.empty c.in-Err.ensures.reads)

pub returns-in-Ok-read_node_line-clause-answers : goal.returns-in-Ok-read_node_line-clause-answers
returns-in-Ok-read_node_line-clause-answers g c =
    answered_node c.in_ok-reader.reader c.read_graph_line.new.reader c.read_node_line.new.reader
    (g.S.Source.left c.args.source.now) (g.S.Source.left c.read_graph_line.new.source) (g.S.Source.left c.read_node_line.new.source)
    c.in-Ok.graph c.in-Ok-read_node_line.n c.node_reply.result c.in_ok-reader.ensures.empty c.in-Ok.ensures.reads
    c.in-Ok-read_node_line.ensures.reads c.node_reply.ensures.reply c.node_reply.ensures.err

pub returns-clause-answers : goal.returns-clause-answers
returns-clause-answers g c =
    rw c.reply-in-Err-read_node_line.ensures
    (refused_node c.in_ok-reader.reader c.read_graph_line.new.reader c.read_node_line.new.reader
    (g.S.Source.left c.args.source.now) (g.S.Source.left c.read_graph_line.new.source) (g.S.Source.left c.read_node_line.new.source)
    c.in-Ok.graph c.in-Err-read_node_line.refused c.in_ok-reader.ensures.empty c.in-Ok.ensures.reads
    c.in-Err-read_node_line.ensures.reads)
