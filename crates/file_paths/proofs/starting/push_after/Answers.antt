-- The paths of one edge from after the cut node, or none.
use Rattle.std.proofs.Common.{sym, ◌∙◌}
use Rattle.std.proofs.lemmas.Result.{on_ok_weaker}
use Rattle.file_paths.specs.Finding.{after_node}
use Rattle.file_paths.proofs.BeginningLaws.{begun_none, begun_cut}
use Rattle.file_paths.proofs.starting.push_after.Goals as goal

pub returns-then-not-is_cut-clause-first : goal.returns-then-not-is_cut-clause-first
returns-then-not-is_cut-clause-first c =
    begun_none c.args.graph.now _ (after_node c.args.node) c.args.first.now.items (sym c.is_cut.ensures ∙ c.if-not-is_cut.true)

pub returns-clause-first : goal.returns-clause-first
returns-clause-first c =
    on_ok_weaker c.push_units.result
    (λ more.
    begun_cut c.args.graph.now c.args.node c.args.first.now.items c.push_units.new.first.items
    (sym c.is_cut.ensures ∙ c.if-not-is_cut.false) more) c.push_units.ensures.longer
