-- Behind a cut edge no walk goes on; else it goes on by the edges from the last one's sink.
use Rattle.std.proofs.Common.{sym, ◌∙◌}
use Rattle.file_paths.proofs.LastLaws.{none_onward, may_onward, goes_onward}
use Rattle.file_paths.proofs.enumerating.onward.Goals as goal

pub returns-then-is_cut-clause-longer : goal.returns-then-is_cut-clause-longer
returns-then-is_cut-clause-longer c =
    none_onward c.args.graph.now c.args.path.now c.args.sink c.args.begun.now.items c.requires.leads (sym c.is_cut.ensures ∙ c.if-is_cut.true)

pub begin_longer-requires-clause-may : goal.begin_longer-requires-clause-may
begin_longer-requires-clause-may c =
    may_onward c.args.graph.now c.args.path.now c.args.sink c.requires.exact c.requires.walk c.requires.leads (sym c.is_cut.ensures ∙ c.if-is_cut.false)

pub begin_longer-requires-clause-onward : goal.begin_longer-requires-clause-onward
begin_longer-requires-clause-onward c =
    goes_onward c.args.graph.now c.args.path.now c.args.sink c.requires.leads (sym c.is_cut.ensures ∙ c.if-is_cut.false)
