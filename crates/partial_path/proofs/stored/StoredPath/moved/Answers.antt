-- The moved parts are those of a rule.
use Rattle.std.proofs.Common.{◌≡◌, ◌∙◌, sym, subst, rules}
use Rattle.partial_path.specs.Moved.{moved, moved_pre, moved_post, Fits}
use Rattle.partial_path.specs.Pooled.{pre_of, post_of}
use Rattle.partial_path.proofs.FileNumberLaws.{moved-fits}
use Rattle.partial_path.proofs.MovedRules.{moved-ruled}
use Rattle.partial_path.proofs.stored.StoredPath.moved.Goals as goal

pub of-requires : goal.of-requires
of-requires c =
    moved-ruled c.args.base c.args.self.now c.moved_ends-start.result.0 c.moved_ends-start.result.1 c.in_ok-pre.pre c.in_ok-post.post c.peak.result
    c.in_ok-edges.edges.items c.peak.ensures.rule
    (c.in_ok-pre.ensures ∙ (λ i. moved_pre c.args.base (pre_of (c.asked.ensures.value i) (c.fixed.ensures.value i))))
    (c.in_ok-post.ensures ∙ (λ i. moved_post c.args.base (post_of (c.made.ensures.value i) (c.scopes.ensures.value i) (c.tail.ensures.value i)))) c.peak.ensures.value

pub returns-clause-fits : goal.returns-clause-fits
returns-clause-fits c =
    let e : c.of.result ≡ moved c.args.base c.args.self.now = search rules in
    subst (Fits 0) (sym e) (moved-fits c.args.base c.args.self.now c.requires)
