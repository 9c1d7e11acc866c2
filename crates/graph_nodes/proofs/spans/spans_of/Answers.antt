-- One node more, with its span where it has one.
use Rattle.std.proofs.Common.{◌++◌, sym, ap, ◌∙◌, append-nil}
use Rattle.graph_nodes.specs.Spans.{spanned}
use Rattle.graph_nodes.proofs.Split.{spans_more}
use Rattle.graph_nodes.proofs.spans.spans_of.Goals as goal
use Rattle.graph_nodes.proofs.spans.spans_of.Goals.{in-Some+in_ok-push, in_default}

pub loop-n-preserved : goal.loop-n-preserved
loop-n-preserved c =
    let more = spans_more c.args.nodes.now c.loop-n.n c.index-nodes-n.result c.loop-n.spans.items c.loop-n-test.true c.index-nodes-n.is c.loop-n.invariant in
    elim c.match-node.branch [
      | in-Some+in_ok-push w ↦
          rw w.spans-is (w.in_ok-push.ensures.items
          ∙ ap (λ span. c.loop-n.spans.items ++ spanned c.loop-n.n span) (sym w.in-Some.is) ∙ more)
      | in_default w ↦
          rw w.spans-is (sym (append-nil c.loop-n.spans.items)
          ∙ ap (λ span. c.loop-n.spans.items ++ spanned c.loop-n.n span) (sym w.in_default.is) ∙ more)
    ]
