use Rattle.nav_answers.specs.Asking.{AreFound, IsShareOf}
use Rattle.nav_answers.specs.Sources.{graphs_seen}
use Rattle.nav_answers.specs.Twins.{AreKept}
use Rattle.nav_answers.proofs.sharing.ask_run.Given as goal

-- what is found so far of the share, and what is kept of the references that were searched last
abbrev pub invariant-loop-job : goal.invariant-loop-job
invariant-loop-job g l =
    AreFound l.query.bounds (graphs_seen l.query.view.now) l.query.definitions.now (IsShareOf l.all l.fn.run.shares l.fn.run.share l.job) l.links
    × AreKept l.query.bounds (graphs_seen l.query.view.now) l.searched.list.items
