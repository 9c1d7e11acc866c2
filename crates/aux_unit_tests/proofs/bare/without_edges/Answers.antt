use Rattle.std.proofs.Common.{rules, ◌≡◌, []}
use Rattle.aux_unit_tests.proofs.bare.without_edges.Goals as goal

pub new-requires-2-clause-paths : goal.new-requires-2-clause-paths
new-requires-2-clause-paths c = let e : c.new.result.items ≡ [] = search rules in rw e ((c.no_edges_no_walks.ensures c.args.graph c.requires).0)

pub new-requires-2-clause-weight : goal.new-requires-2-clause-weight
new-requires-2-clause-weight c = (c.no_edges_no_walks.ensures c.args.graph c.requires).1
