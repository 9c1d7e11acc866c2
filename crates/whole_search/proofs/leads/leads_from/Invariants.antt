use Rattle.std.proofs.Common.{◌≡◌}
use Rattle.std.specs.List.{list_any}
use Rattle.graph_nodes.specs.declared.node.Place.TheVariants as place
use Rattle.graph_nodes.specs.Out.{edges_from}
use Rattle.whole_search.specs.Leads.{leads_by}
use Rattle.whole_search.proofs.leads.leads_from.Given as goal

abbrev pub invariant-loop-e : goal.invariant-loop-e
invariant-loop-e l =
    record {
      can : (goal.iterator-loop-e).can_next l.e-iterator;
      finite : (goal.iterator-loop-e).is_finite l.e-iterator;
      left : list_any (leads_by l.graph l.marks) l.e-iterator
          ≡ list_any (leads_by l.graph l.marks) (edges_from l.graph (place.At l.n));
    }
