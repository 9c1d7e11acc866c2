use Rattle.std.proofs.Common.{refl, map}
use Rattle.partial_path.specs.Moved.{moved_start, moved_end, moved_edge, moved_pre, moved_post}
use Rattle.partial_path.proofs.MovedRules.{moved-ruled}
use Rattle.partial_path.proofs.stored.StoredPath.moved_ends.Goals as goal

pub returns-clause-rule : goal.returns-clause-rule
returns-clause-rule c =
    let r = c.args.self.now in
    moved-ruled c.args.base r (moved_start c.args.base r.start) (moved_end c.args.base r.end) (moved_pre c.args.base r.pre) (moved_post c.args.base r.post) r.peak (map (moved_edge c.args.base) r.edges)
    c.start.ensures.rule refl refl refl
