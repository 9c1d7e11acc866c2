-- Each edge from the place begins a walk there, and in the end all were tried.
use Rattle.std.proofs.Common.{◌+◌, ◌∙◌, subst, sym, List}
use Rattle.std.specs.List.{AllByRecursion}
use Rattle.partial_path.specs.Rules.{Rule}
use Rattle.file_paths.specs.declared.fault.TheConstants.{MAX_WEIGHT}
use Rattle.file_paths.specs.Finding.{IsShort}
use Rattle.list_facts.proofs.Each.{all_push}
use Rattle.file_paths.proofs.NextLaws.{unit_short}
use Rattle.file_paths.proofs.BeginningLaws.{units_begin, units_there, units_more, units_end}
use Rattle.file_paths.proofs.starting.push_units.Goals as goal

pub loop-edge-init : goal.loop-edge-init
loop-edge-init c = record {
  units = units_begin c.args.graph.now c.args.from c.into_iter-edge-iterator.result c.args.first.now.items
      (c.into_iter-edge-iterator.ensures.into_iter_gives ∙ c.edges_from-edge-items.ensures);
  short = c.requires.short;
}

pub unit-requires : goal.unit-requires
unit-requires c =
    units_there c.args.graph.now c.args.from c.loop-edge.edge-iterator c.next.new.self c.in-Some.edge c.args.first.now.items c.loop-edge.first.items
    c.requires.jump c.loop-edge.invariant.units c.in-Some.ensures.steps

pub loop-edge-preserved : goal.loop-edge-preserved
loop-edge-preserved c = record {
  units =
      units_more c.args.graph.now c.args.from c.loop-edge.edge-iterator c.next.new.self c.in-Some.edge c.args.first.now.items c.loop-edge.first.items
      c.put.new.paths.items c.in_ok-unit.field-0 c.node_count.ensures.checked c.requires.cut c.loop-edge.invariant.units c.in-Some.ensures.steps
      c.in_ok-unit.ensures.start c.in_ok-unit.ensures.edges c.in_ok-unit.ensures.rule c.in_ok-put.ensures;
  short =
      subst (λ (items : List Rule). AllByRecursion (IsShort (MAX_WEIGHT + 1)) items) (sym c.in_ok-put.ensures)
      (all_push (IsShort (MAX_WEIGHT + 1)) c.loop-edge.first.items c.in_ok-unit.field-0 c.loop-edge.invariant.short
      (unit_short MAX_WEIGHT c.in-Some.edge c.in_ok-unit.field-0 c.in_ok-unit.ensures.peak c.in_ok-unit.ensures.edges));
}

pub returns-clause-longer : goal.returns-clause-longer
returns-clause-longer c =
    units_end c.args.graph.now c.args.from c.loop-edge.edge-iterator c.args.first.now.items c.loop-edge.first.items c.loop-edge.invariant.units c.in-None.ensures.steps.0
