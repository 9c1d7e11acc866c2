use Rattle.std.proofs.Common.{sym, subst, append-nil}
use Rattle.std.proofs.lemmas.List.{take-append-drop}
use Rattle.version_tree.specs.Blocks.{IsBlock}
use Rattle.version_tree.proofs.ByBlock.{lower-half, upper-half}
use Rattle.version_tree.proofs.blocks.in_blocks.Goals as goal

pub of-requires-2 : goal.of-requires-2
of-requires-2 c = subst IsBlock (sym c.in_ok-lower.ensures.0) (lower-half c.args.rows (rw c.len-2.ensures.count at c.if-len-le-BLOCK_ROWS.false))

pub of-requires-3 : goal.of-requires-3
of-requires-3 c = subst IsBlock (sym c.in_ok-lower.ensures.1) (upper-half c.args.rows (rw c.len-2.ensures.count at c.if-len-le-BLOCK_ROWS.false) c.requires)

pub returns-clause-rows : goal.returns-clause-rows
returns-clause-rows c =
    simp (c.in_ok-push-3.ensures.items, c.in_ok-push-2.ensures.items, c.new-blocks.ensures.items, c.in_ok-of-2.ensures, c.in_ok-of-3.ensures, c.in_ok-lower.ensures.0, c.in_ok-lower.ensures.1, append-nil) (take-append-drop 32 c.args.rows)
