-- Each edge makes the walk longer or doesn't, and in the end all were tried.
use Rattle.std.proofs.Common.{◌∙◌}
use Rattle.partial_path.specs.PathSets.{walk_of_rule}
use Rattle.file_paths.proofs.GrowingLaws.{adding_begins, adding_there, adding_rule, adding_ends}
use Rattle.file_paths.proofs.growing.begin_longer.Goals as goal

pub loop-edge-init : goal.loop-edge-init
loop-edge-init c = record {
  adding = adding_begins c.args.graph.now (walk_of_rule c.args.path.now) c.args.from c.into_iter-edge-iterator.result c.args.begun.now.items
      (c.into_iter-edge-iterator.ensures.into_iter_gives ∙ c.edges_from-edge-items.ensures);
  short = c.requires.begun;
}

pub begin_copy-requires-clause-edge : goal.begin_copy-requires-clause-edge
begin_copy-requires-clause-edge c =
    adding_there c.args.graph.now (walk_of_rule c.args.path.now) c.args.from c.loop-edge.edge-iterator c.next.new.self c.in-Some.edge
    c.args.begun.now.items c.loop-edge.begun.items c.loop-edge.invariant.adding c.in-Some.ensures.steps

pub loop-edge-preserved : goal.loop-edge-preserved
loop-edge-preserved c = record {
  adding =
      adding_rule c.args.graph.now (walk_of_rule c.args.path.now) c.args.from c.loop-edge.edge-iterator c.next.new.self c.in-Some.edge
      c.args.begun.now.items c.loop-edge.begun.items c.begin_copy.new.begun.items c.loop-edge.invariant.adding
      c.in-Some.ensures.steps c.in_ok-begin_copy.ensures.found;
  short = c.in_ok-begin_copy.ensures.begun;
}

pub returns-clause-longer : goal.returns-clause-longer
returns-clause-longer c =
    adding_ends c.args.graph.now (walk_of_rule c.args.path.now) c.args.from c.loop-edge.edge-iterator c.args.begun.now.items c.loop-edge.begun.items
    c.loop-edge.invariant.adding c.in-None.ensures.steps.0 c.requires.onward
