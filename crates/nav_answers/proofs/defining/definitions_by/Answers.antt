-- The complete runs that were found tell the definitions.
use Rattle.std.proofs.Common.{sym, subst, IsSomeAnd, All, List}
use Rattle.partial_path.specs.Step.{start}
use Rattle.stitcher.specs.Found.{EdgePath}
use Rattle.stitcher.specs.Answers.{AreCompleteRuns}
use Rattle.version_tree.specs.Contents.{FileRow}
use Rattle.whole_search.specs.declared.found.Hit.{Hit}
use Rattle.whole_search.specs.Answers.{AreDefinitions}
use Rattle.nav_answers.specs.Kept.{HasEdges}
use Rattle.nav_answers.specs.Sources.{graphs_seen}
use Rattle.nav_answers.proofs.Exact.{edges_from, definitions_from}
use Rattle.nav_answers.proofs.defining.definitions_by.Goals as goal

pub rows_of-requires : goal.rows_of-requires
rows_of-requires c =
    let complete = subst (λ (rows : List FileRow). IsSomeAnd (start (graphs_seen rows) c.args.node) (λ d. AreCompleteRuns c.args.bounds (graphs_seen rows) d c.in_ok-found.found.complete.items)) (sym c.view.ensures) c.in_ok-found.ensures.complete in
    subst (All (HasEdges (graphs_seen c.view.result.now))) (sym c.deref.ensures.value)
    (edges_from c.args.bounds (graphs_seen c.view.result.now) (start (graphs_seen c.view.result.now) c.args.node) c.in_ok-found.found.complete.items complete)

pub returns-clause-rows : goal.returns-clause-rows
returns-clause-rows c =
    let complete = subst (λ (rows : List FileRow). IsSomeAnd (start (graphs_seen rows) c.args.node) (λ d. AreCompleteRuns c.args.bounds (graphs_seen rows) d c.in_ok-found.found.complete.items)) (sym c.view.ensures) c.in_ok-found.ensures.complete in
    let here = subst (λ (runs : List EdgePath). IsSomeAnd (start (graphs_seen c.view.result.now) c.args.node) (λ d. AreCompleteRuns c.args.bounds (graphs_seen c.view.result.now) d runs)) (sym c.deref.ensures.value) complete in
    let told = subst (λ (hits : List Hit). IsSomeAnd (start (graphs_seen c.view.result.now) c.args.node) (λ d. AreDefinitions c.args.bounds (graphs_seen c.view.result.now) d hits)) (sym c.of.ensures)
    (definitions_from c.args.bounds (graphs_seen c.view.result.now) (start (graphs_seen c.view.result.now) c.args.node) c.deref.result.now c.in_ok-rows.rows.items here c.in_ok-rows.ensures.rising c.in_ok-rows.ensures.exact) in
    subst (λ (rows : List FileRow). IsSomeAnd (start (graphs_seen rows) c.args.node) (λ d. AreDefinitions c.args.bounds (graphs_seen rows) d c.of.result)) c.view.ensures told
