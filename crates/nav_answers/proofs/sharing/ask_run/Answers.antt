use Rattle.std.proofs.Common.{◌<◌, ◌≤◌, ◌+◌, length, arith}
use Rattle.partial_path.specs.Spots.{node_at}
use Rattle.nav_answers.specs.Sources.{graphs_seen}
use Rattle.nav_answers.proofs.Shared.{share_grown, share_held, share_left}
use Rattle.nav_answers.proofs.sharing.ask_run.Goals as goal

pub loop-job-preserved : goal.loop-job-preserved
loop-job-preserved g c =
    let low : c.args.run.from ≤ c.loop-job.job = omega (arith, c.loop-job.auto.job) in
    let inside : c.loop-job.job < length c.args.all.now = omega (arith, c.loop-job-test.true, c.requires.inside) in (
      share_held c.args.query.now.bounds (graphs_seen c.args.query.now.view.now) c.args.query.now.definitions.now c.args.all.now c.args.run.shares c.args.run.share (c.loop-job.job + 1) c.add_found.new.links c.hold.new.self c.in_ok-hold.ensures
          (share_grown c.args.query.now.bounds (graphs_seen c.args.query.now.view.now) c.args.query.now.definitions.now c.args.all.now c.args.run.shares c.args.run.share c.loop-job.job (node_at 0 0) c.loop-job.links c.add_found.new.links
          (c.requires.mine c.loop-job.job low c.loop-job-test.true) inside c.loop-job.invariant.0 (c.in_ok-add_found.ensures.found (node_at 0 0))),
      c.in_ok-add_found.ensures.kept,
    )

pub returns-clause-found : goal.returns-clause-found
returns-clause-found g c =
    share_left c.args.query.now.bounds (graphs_seen c.args.query.now.view.now) c.args.query.now.definitions.now c.args.all.now c.args.run.shares c.args.run.share c.loop-job.job c.args.run.end c.loop-job.links
    (c.loop-job.auto.job-end c.requires.order) (λ k low high. absurd (omega (arith, low, high, c.loop-job-test.false))) c.loop-job.invariant.0
