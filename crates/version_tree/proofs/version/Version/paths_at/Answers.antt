use Rattle.std.proofs.Common.{sym, ◌∙◌, ap, Some}
use Rattle.version_tree.specs.Blocks.{all_rows}
use Rattle.version_tree.proofs.Found.{file-found, file-absent}
use Rattle.version_tree.proofs.version.Version.paths_at.Goals as goal

pub returns-in-Some : goal.returns-in-Some
returns-in-Some c =
    rw (← c.self.view_is, ← c.blocks-2.ensures) (ap Some c.paths.ensures ∙ sym (file-found c.args.path.now (all_rows c.blocks-2.result.now) c.in-Some.row.now c.row_with.ensures.rows.order c.in-Some.ensures.row))

pub returns-in-None : goal.returns-in-None
returns-in-None c = rw (← c.self.view_is, ← c.blocks-2.ensures) (sym (file-absent c.args.path.now (all_rows c.blocks-2.result.now) c.in-None.ensures.row))
