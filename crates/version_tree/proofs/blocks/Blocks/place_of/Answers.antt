use Rattle.std.proofs.Common.{sym, ◌∙◌, ap}
use Rattle.version_tree.specs.Contents.{has_path}
use Rattle.version_tree.proofs.Found.{gap-has}
use Rattle.version_tree.proofs.ByBlock.{has-there}
use Rattle.version_tree.proofs.Placed.{place-there}
use Rattle.version_tree.proofs.blocks.Blocks.place_of.Goals as goal

pub returns-in-Ok : goal.returns-in-Ok
returns-in-Ok c = (
  c.in_ok-block.ensures.in_range,
  place-there c.args.path.now c.args.self.now c.in_ok-block.block c.index.result.now c.in-Ok.row c.in_ok-block.ensures
      (rw c.self.view_is at c.index.ensures) (rw c.rows.ensures.rows at c.in-Ok.ensures.found),
)

pub returns-in-Err : goal.returns-in-Err
returns-in-Err c =
    has-there c.args.path.now c.args.self.now c.in_ok-block.block c.index.result.now c.in_ok-block.ensures (rw c.self.view_is at c.index.ensures)
    ∙ ap (has_path c.args.path.now) (sym c.rows.ensures.rows)
    ∙ gap-has c.args.path.now c.rows.result.now c.in-Err.field-0 c.in-Err.ensures.absent
