-- No start was looked at yet; then those after nodes; with the root's the others follow.
use Rattle.file_paths.proofs.FirstLaws.{first_none, first_root}
use Rattle.file_paths.proofs.starting.first_paths.Goals as goal

pub push_afters-requires-clause-first : goal.push_afters-requires-clause-first
push_afters-requires-clause-first c = first_none c.args.graph.now c.in_ok-first.first.items c.in_ok-first.ensures.items

pub push_befores-requires-clause-first : goal.push_befores-requires-clause-first
push_befores-requires-clause-first c =
    first_root c.args.graph.now c.push_afters.new.first.items c.push_units.new.first.items c.in_ok-push_afters.ensures.first c.in_ok-push_units.ensures.longer
