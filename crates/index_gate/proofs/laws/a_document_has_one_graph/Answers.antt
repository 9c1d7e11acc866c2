use Rattle.index_gate.proofs.Graphs.{one_graph}
use Rattle.index_gate.proofs.laws.a_document_has_one_graph.Goals as goal

pub returns : goal.returns
returns c = one_graph c.lookahead_reads_texts.ensures
