-- The longer run stands where the edge leads, and is bounded where the shorter one was and it still is.
use Rattle.std.proofs.Common.{sym, ◌∙◌}
use Rattle.std.proofs.lemmas.List.Elements.{All-same, All-push}
use Rattle.whole_search.specs.Query.{IsOpenIn}
use Rattle.whole_search.proofs.Following.{IsOpen-longer}
use Rattle.whole_search.proofs.follow.follow.Goals as goal

pub returns-clause-stack : goal.returns-clause-stack
returns-clause-stack c =
    All-same (IsOpenIn c.args.query.now) _ _ c.in_ok-push.ensures.items
    (All-push (IsOpenIn c.args.query.now) c.args.stack.now.items _ c.requires.stack
    (IsOpen-longer c.args.query.now.bounds c.args.query.now.files.now c.args.query.now.start.now c.in-Some.next c.args.reached c.args.edge c.in_ok-run.run' c.len.result c.stays_bounded-bounded.result c.requires.reached
    (sym c.in_ok-next.ensures ∙ c.in-Some.is) c.in_ok-run.ensures c.len.ensures c.stays_bounded-bounded.ensures))
