use Rattle.std.proofs.Common.{subst}
use Rattle.stacks_vars.specs.declared.scopes.NodeAt.{NodeAt}
use Rattle.partial_path.specs.Spots.{node_at}
use Rattle.nav_answers.specs.Asking.{AddsLinks}
use Rattle.nav_answers.specs.Sources.{graphs_seen}
use Rattle.nav_answers.proofs.Shared.{job_among, same_place}
use Rattle.nav_answers.proofs.jobs.add_found.Goals as goal

pub ask_into-requires-clause-among : goal.ask_into-requires-clause-among
ask_into-requires-clause-among g c = job_among c.args.all.now c.args.job (node_at 0 0) c.requires.inside

pub returns-in_default-clause-found : goal.returns-in_default-clause-found
returns-in_default-clause-found g c = λ d.
    subst (λ (at : NodeAt). AddsLinks c.args.query.now.bounds (graphs_seen c.args.query.now.view.now) at c.args.links.now c.ask_into.new.links)
    (same_place c.args.all.now c.args.job (node_at 0 0) d c.requires.inside) c.in_ok-ask_into.ensures.found

pub ask_into-requires-2-clause-among : goal.ask_into-requires-2-clause-among
ask_into-requires-2-clause-among g c = job_among c.args.all.now c.args.job (node_at 0 0) c.requires.inside
