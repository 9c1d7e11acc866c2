-- The status tells what the task did.
use Rattle.std.proofs.Common.{ℕ, subst, sym}
use Rattle.nav_serve.specs.Outside.{EndsSo, seen_at}
use Rattle.nav_serve.specs.Performed.{DoesTask, EndsTask, task_ends}
use Rattle.nav_serve.proofs.Told.{does_task, ends_so}
use Rattle.nav_serve.proofs.tasks.perform.Goals as goal

pub returns-clause-does : goal.returns-clause-does
returns-clause-does g c =
    let before = seen_at g.S.Source g.K.Sink c.args.source.now c.args.sink.now in
    let after = seen_at g.S.Source g.K.Sink c.serve.new.source c.serve.new.sink in
    subst (λ (s : ℕ). DoesTask c.args.task before after s) (sym c.status_of.ensures)
    (does_task c.args.task before after c.serve.result c.serve.ensures.served)

pub returns-clause-ends : goal.returns-clause-ends
returns-clause-ends g c =
    let before = seen_at g.S.Source g.K.Sink c.args.source.now c.args.sink.now in
    let after = seen_at g.S.Source g.K.Sink c.serve.new.source c.serve.new.sink in
    subst (λ (s : ℕ). EndsSo task_ends (EndsTask c.args.task before.left) before after s) (sym c.status_of.ensures)
    (ends_so c.args.task before after c.serve.result c.serve.ensures.served c.serve.ensures.source_failed c.serve.ensures.sink_failed
    c.serve.ensures.source_count c.serve.ensures.sink_count)
