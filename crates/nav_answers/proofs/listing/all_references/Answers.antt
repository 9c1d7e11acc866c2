use Rattle.std.proofs.Common.{sym, ap, ◌∙◌, ◌+◌, ◌++◌, drop, Some}
use Rattle.nav_answers.specs.Asking.{references_from}
use Rattle.nav_answers.specs.Sources.{graphs_seen}
use Rattle.nav_answers.proofs.Numbers.{seen_there}
use Rattle.nav_answers.proofs.Asked.{file_listed}
use Rattle.nav_answers.proofs.listing.all_references.Goals as goal

pub loop-number-preserved : goal.loop-number-preserved
loop-number-preserved c =
    ap (λ xs. xs ++ references_from (c.loop-number.number + 1) (drop (c.loop-number.number + 1) (graphs_seen c.args.view.now))) c.in_ok-add_references.ensures
    ∙ sym (file_listed c.loop-number.number (graphs_seen c.args.view.now) c.get.result.now.graph c.loop-number.all.items
    (seen_there c.args.view.now c.loop-number.number c.get.result.now (c.paths.ensures ∙ ap (λ x. Some x) (sym c.get.ensures.value))))
    ∙ c.loop-number.invariant
