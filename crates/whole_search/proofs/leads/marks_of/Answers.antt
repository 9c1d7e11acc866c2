-- The mark of one more node is set; at the end each node has its mark.
use Rattle.std.proofs.Common.{◌-◌, ◌<◌, ◌≡◌, length, arith, ap, ◌∙◌}
use Rattle.std.specs.List.{list_any}
use Rattle.std.proofs.lemmas.List.{length-set}
use Rattle.graph_nodes.specs.declared.node.Place.TheVariants as place
use Rattle.graph_nodes.specs.Out.{edges_from}
use Rattle.whole_search.specs.Leads.{leads_by}
use Rattle.whole_search.proofs.Marks.{AreMarksFrom-more}
use Rattle.whole_search.proofs.leads.marks_of.Goals as goal

pub loop-done-preserved : goal.loop-done-preserved
loop-done-preserved c =
    let count : c.node_count-count.result ≡ length c.args.graph.now.nodes = c.node_count-count.ensures.value in
    let low : c.loop-done.done < c.node_count-count.result = c.loop-done-test.true in
    record {
      one_each = length-set _ _ _ ∙ c.loop-done.invariant.one_each;
      later =
          AreMarksFrom-more c.args.graph.now c.node_count-count.ensures.checked c.loop-done.marks.items c.loop-done.done
          (c.node_count-count.result - 1 - c.loop-done.done) c.leads_from-mark.result c.loop-done.invariant.one_each
          (omega arith)
          (c.leads_from-mark.ensures
          ∙ ap (λ marks. list_any (leads_by c.args.graph.now marks) (edges_from c.args.graph.now (place.At (c.node_count-count.result - 1 - c.loop-done.done)))) c.as_slice.ensures.value)
          c.loop-done.invariant.later;
    }
