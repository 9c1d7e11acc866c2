use Rattle.std.proofs.Common.{◌++◌, ap, sym, ◌∙◌}
use Rattle.std.specs.Vec.{vec_len}
use Rattle.version_tree.specs.Contents.{covered}
use Rattle.version_tree.proofs.Parts.{filter-rows}
use Rattle.version_tree.proofs.Placed.{seen-block}
use Rattle.version_tree.proofs.block.Block.seen.Goals as goal

pub of-requires : goal.of-requires
of-requires c = rw (c.in_ok-grant.ensures.kept, c.new-kept.ensures.items) (filter-rows _ _ c.in_ok-grant.ensures.rows)

pub of-requires-2 : goal.of-requires-2
of-requires-2 c =
    let same = c.in_ok-grant.ensures.kept ∙ ap (λ r. r ++ covered c.args.grants.now c.args.user.now c.rows-rows.result.now) c.new-kept.ensures.items
    ∙ ap (covered c.args.grants.now c.args.user.now) c.rows-rows.ensures.rows in
    rw c.of.ensures (seen-block c.args.grants.now c.args.user.now c.args.self.now c.grant.new.kept.items (vec_len c.grant.new.kept) c.rows-rows.ensures.size same
    c.grant.new.kept.ok.0 (sym c.is_empty.ensures ∙ c.if-is_empty.false))
