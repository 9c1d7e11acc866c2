use Rattle.std.proofs.Common.{◌∙◌, sym, ap, ◌+◌, ◌∷◌, ◌++◌, List, drop}
use Rattle.partial_path.specs.Keys.{asked_texts}
use Rattle.end_index.specs.declared.place.EndPlace.{EndPlace}
use Rattle.end_index.specs.declared.runs.EndRuns.{EndRuns}
use Rattle.end_index.specs.Runs.{runs_behind, runs_left}
use Rattle.end_index.proofs.Ordered.{run_behind, run_begun}
use Rattle.end_index.proofs.runs.next_run.Goals as goal

-- the run has a path: its first comes next
pub returns-in-Some-clause-next : goal.returns-in-Some-clause-next
returns-in-Some-clause-next c =
    c.loop-asked.invariant
    ∙ run_behind c.args.symbols.now c.loop-asked.mark c.loop-asked.asked c.with_symbol-mark.result _ c.args.places.now c.loop-asked-test.true (c.with_symbol-mark.ensures)
    ∙ run_begun (asked_texts c.args.symbols.now) c.run_of-run.result c.with_symbol-mark.result (c.loop-asked.asked + 1) c.args.places.now c.in-Some.place c.run_of-run.ensures.run c.run_of-run.ensures.mark c.run_of-run.ensures.asked
    c.in-Some.ensures.value
    ∙ ap (λ (at : EndRuns). c.in-Some.place ∷ runs_left (asked_texts c.args.symbols.now) at c.args.places.now) (sym c.stepped.ensures)

-- it has none
pub loop-asked-preserved : goal.loop-asked-preserved
loop-asked-preserved c =
    c.loop-asked.invariant
    ∙ run_behind c.args.symbols.now c.loop-asked.mark c.loop-asked.asked c.with_symbol-mark.result _ c.args.places.now c.loop-asked-test.true (c.with_symbol-mark.ensures)
    ∙ ap (λ (ps : List EndPlace). ps ++ runs_behind c.with_symbol-mark.result (c.loop-asked.asked + 1) (drop (c.loop-asked.asked + 1) (asked_texts c.args.symbols.now)) c.args.places.now)
    (sym c.run_of-run.ensures.run ∙ c.in_default.ensures.value)
