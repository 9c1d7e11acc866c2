use Rattle.std.proofs.Common.{ap, sym, ◌∙◌}
use Rattle.version_tree.specs.Contents.{has_path}
use Rattle.version_tree.proofs.ByBlock.{has-there}
use Rattle.version_tree.proofs.blocks.Blocks.has.Goals as goal

pub returns-in-Some : goal.returns-in-Some
returns-in-Some c =
    c.has.ensures ∙ ap (has_path c.args.path.now) c.rows.ensures.rows
    ∙ sym (has-there c.args.path.now c.args.self.now c.in-Some.i c.index.result.now c.in-Some.ensures (rw c.self.view_is at c.index.ensures))
