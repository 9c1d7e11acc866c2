-- The run is kept where its path comes next among the kept ones.
use Rattle.std.proofs.Common.{◌≡◌, sym, ◌∙◌, ap, ◌+◌, ◌++◌, ◌∷◌, [], Vec}
use Rattle.std.specs.Global.{Global}
use Rattle.whole_search.specs.declared.found.Hit.{Hit}
use Rattle.nav_answers.specs.Kept.{is_next, end_of}
use Rattle.nav_answers.specs.Replies.{hit_of}
use Rattle.nav_answers.specs.Sources.{graphs_seen}
use Rattle.nav_answers.proofs.Kept.{taken, passed, so_told}
use Rattle.nav_answers.proofs.rows.ends_of.Goals as goal
use Rattle.nav_answers.proofs.rows.ends_of.Goals.{then-is_next+in_ok-push, else-is_next}

pub loop-run-preserved : goal.loop-run-preserved
loop-run-preserved c =
    let told : is_next c.args.kept.now c.loop-run.place c.run-item.result.edges ≡ c.is_next.result
    = ap (is_next c.args.kept.now c.loop-run.place) (sym (c.as_slice.ensures.value ∙ c.in_ok-edges.ensures)) ∙ sym c.is_next.ensures.value in
    elim c.if-is_next.branch [
      | then-is_next+in_ok-push w ↦
          so_told (graphs_seen c.args._view.now) c.args.runs.now c.args.kept.now (c.loop-run.run-index + 1) (c.loop-run.place + 1) c.if-is_next.place (c.loop-run.ends.items ++ end_of c.run-item.result ∷ []) c.if-is_next.ends.items w.place-is
          (ap (λ (v : Vec Hit Global). v.items) w.ends-is ∙ w.in_ok-push.ensures.items ∙ ap (λ h. c.loop-run.ends.items ++ h ∷ []) (w.hit_of.ensures ∙ ap hit_of w.end.ensures))
          (taken (graphs_seen c.args._view.now) c.args.runs.now c.args.kept.now c.loop-run.run-index c.loop-run.place c.loop-run.ends.items c.run-item.result c.loop-run-test.true c.run-item.is c.loop-run.invariant (told ∙ w.if-is_next.true))
      | else-is_next w ↦
          so_told (graphs_seen c.args._view.now) c.args.runs.now c.args.kept.now (c.loop-run.run-index + 1) c.loop-run.place c.if-is_next.place c.loop-run.ends.items c.if-is_next.ends.items w.place-is (ap (λ (v : Vec Hit Global). v.items) w.ends-is)
          (passed (graphs_seen c.args._view.now) c.args.runs.now c.args.kept.now c.loop-run.run-index c.loop-run.place c.loop-run.ends.items c.run-item.result c.loop-run-test.true c.run-item.is c.loop-run.invariant (told ∙ w.if-is_next.false))
    ]
