use Rattle.std.proofs.Common.{sym, subst, All}
use Rattle.root_index.specs.Offers.{files_of}
use Rattle.partial_path.specs.Ends.{ends_by_stack}
use Rattle.end_index.specs.Runs.{AreByRank}
use Rattle.end_index.proofs.Given.{side_there}
use Rattle.end_index.proofs.source.next_by_stack.Goals as goal

pub next_outside-requires-clause-there : goal.next_outside-requires-clause-there
next_outside-requires-clause-there c =
    side_there (files_of c.args.view.now) ends_by_stack c.args.ends.now.stack c.stack.result.now c.requires.index.stack c.stack.ensures.listed c.stack.ensures.value

pub next_outside-requires-clause-order : goal.next_outside-requires-clause-order
next_outside-requires-clause-order c = subst (All AreByRank) (sym c.stack.ensures.value) c.stack.ensures.listed.order
