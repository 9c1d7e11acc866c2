use Rattle.std.proofs.Common.{◌∙◌, ap, ◌≤◌, length, map, arith}
use Rattle.std.proofs.lemmas.List.{take_all}
use Rattle.whole_search.proofs.InOrder.{exact_along}
use Rattle.nav_answers.specs.Kept.{end_of, ends_of}
use Rattle.nav_answers.specs.Sources.{graphs_seen}
use Rattle.nav_answers.proofs.Alone.{alone_kept}
use Rattle.nav_answers.proofs.rows.ends_alone.Goals as goal

pub returns-clause-exact : goal.returns-clause-exact
returns-clause-exact c =
    let end : length c.args.runs.now ≤ c.loop-run.run-index = omega (arith, c.loop-run-test.false) in
    exact_along c.loop-run.rows.items c.loop-run.rows.items (ends_of (graphs_seen c.args._view.now) c.args.runs.now)
    (c.loop-run.invariant ∙ ap (map end_of) (take_all c.loop-run.run-index c.args.runs.now end) ∙ alone_kept (graphs_seen c.args._view.now) c.args.runs.now c.requires)
    (λ hit. (λ h. h, λ h. h))
