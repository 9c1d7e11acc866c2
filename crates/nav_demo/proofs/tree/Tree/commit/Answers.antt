use Rattle.std.proofs.Common.{◌∙◌, ap}
use Rattle.nav_demo.specs.MadeTree.{made_files}
use Rattle.nav_demo.proofs.Drawn.{commit_is}
use Rattle.nav_demo.proofs.tree.Tree.commit.Goals as goal

-- the commit of so many files, or of the rest
pub returns-clause-request : goal.returns-clause-request
returns-clause-request c =
    λ n e. commit_is c.args.self.now.files c.args.self.now.start c.args.self.now.next n c.in_ok-edits.edits
    (c.in_ok-edits.ensures.edits ∙ ap (λ count. made_files c.args.self.now.files c.args.self.now.start c.args.self.now.next count) c.min-count.ensures) e
