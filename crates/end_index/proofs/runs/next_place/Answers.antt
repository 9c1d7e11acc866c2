use Rattle.std.proofs.Common.{◌∙◌, ap, sym}
use Rattle.partial_path.specs.Keys.{asked_texts}
use Rattle.end_index.specs.Runs.{runs_left}
use Rattle.end_index.proofs.Ordered.{behind_share}
use Rattle.end_index.proofs.runs.next_place.Goals as goal

pub loop-at-preserved : goal.loop-at-preserved
loop-at-preserved c =
    c.loop-at.invariant
    ∙ behind_share (asked_texts c.args.symbols.now) c.loop-at.at c.before_runs-at.result c.args.shares.now _ c.requires.order c.loop-at-test.true
    (ap (runs_left (asked_texts c.args.symbols.now) c.loop-at.at) (sym (c.items.ensures ∙ c.index-shares-at.is)) ∙ c.in_default.ensures.next) c.before_runs-at.ensures
