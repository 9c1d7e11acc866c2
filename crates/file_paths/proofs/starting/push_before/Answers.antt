-- The paths of one edge from the reference, or none.
use Rattle.std.proofs.Common.{sym, ◌∙◌}
use Rattle.std.proofs.lemmas.Result.{on_ok_weaker}
use Rattle.file_paths.specs.Finding.{before_node}
use Rattle.file_paths.proofs.BeginningLaws.{opened_goes_on, begun_none, begun_reference}
use Rattle.file_paths.proofs.starting.push_before.Goals as goal

pub returns-then-not-is_reference-clause-first : goal.returns-then-not-is_reference-clause-first
returns-then-not-is_reference-clause-first c =
    begun_none c.args.graph.now _ (before_node c.args.node) c.args.first.now.items (sym c.is_reference.ensures ∙ c.if-not-is_reference.true)

pub grow-requires-clause-onward : goal.grow-requires-clause-onward
grow-requires-clause-onward c =
    opened_goes_on c.args.graph.now c.args.node c.in_ok-opened.opened c.in_ok-opened.ensures.start c.in_ok-opened.ensures.edges

pub returns-clause-first : goal.returns-clause-first
returns-clause-first c =
    on_ok_weaker c.grow.result
    (λ more.
    begun_reference c.args.graph.now c.args.node c.args.first.now.items c.grow.new.begun.items c.in_ok-opened.opened
    (sym c.is_reference.ensures ∙ c.if-not-is_reference.false) c.in_ok-opened.ensures.start c.in_ok-opened.ensures.edges more) c.grow.ensures.longer
