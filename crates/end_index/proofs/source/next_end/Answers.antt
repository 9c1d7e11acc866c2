use Rattle.std.proofs.Common.{sym, subst, All}
use Rattle.root_index.specs.Offers.{files_of}
use Rattle.partial_path.specs.Ends.{ends_at_root}
use Rattle.end_index.specs.Runs.{AreByRank}
use Rattle.end_index.proofs.Given.{side_there}
use Rattle.end_index.proofs.source.next_end.Goals as goal

pub next_outside-requires-clause-there : goal.next_outside-requires-clause-there
next_outside-requires-clause-there c =
    side_there (files_of c.args.view.now) ends_at_root c.args.ends.now.root c.root.result.now c.requires.index.root c.root.ensures.listed c.root.ensures.value

pub next_outside-requires-clause-order : goal.next_outside-requires-clause-order
next_outside-requires-clause-order c = subst (All AreByRank) (sym c.root.ensures.value) c.root.ensures.listed.order
