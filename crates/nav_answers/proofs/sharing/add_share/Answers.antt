use Rattle.std.proofs.Common.{subst, Result}
use Rattle.stitcher.specs.declared.found.StitchFault.{StitchFault}
use Rattle.nav_answers.specs.declared.links.Links.{Links}
use Rattle.nav_answers.specs.Asking.{IsDone}
use Rattle.nav_answers.specs.Sources.{graphs_seen}
use Rattle.nav_answers.proofs.Shared.{shares_added}
use Rattle.nav_answers.proofs.sharing.add_share.Goals as goal

pub append-requires : goal.append-requires
append-requires c =
    (subst (λ (share : Result Links StitchFault). IsDone c.args._query.now.bounds (graphs_seen c.args._query.now.view.now) c.args._query.now.definitions.now c.args._all.now c.args._count c.args._place share) c.in-Ok.is c.requires.done).order

pub returns-in_ok-append-in-Ok-clause-added : goal.returns-in_ok-append-in-Ok-clause-added
returns-in_ok-append-in-Ok-clause-added c =
    shares_added c.args._query.now.bounds (graphs_seen c.args._query.now.view.now) c.args._query.now.definitions.now c.args._all.now c.args._count c.args._place c.args.parts.now c.in-Ok.links c.append.new.self c.requires.before
    (subst (λ (share : Result Links StitchFault). IsDone c.args._query.now.bounds (graphs_seen c.args._query.now.view.now) c.args._query.now.definitions.now c.args._all.now c.args._count c.args._place share) c.in-Ok.is c.requires.done).found
    c.in_ok-append-in-Ok.ensures.list c.in_ok-append-in-Ok.ensures.limit c.in_ok-append-in-Ok.ensures.whole
