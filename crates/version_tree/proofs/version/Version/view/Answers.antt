use Rattle.std.proofs.Common.{◌∙◌, ap, arith, length}
use Rattle.list_facts.proofs.Tests.{filter-short}
use Rattle.version_tree.specs.Contents.{FileRow, covered}
use Rattle.grants.specs.Covers.{covers}
use Rattle.version_tree.proofs.version.Version.view.Goals as goal

pub of-requires : goal.of-requires
of-requires c =
    let short = filter-short (λ (row : FileRow). covers c.get.result.now c.args.user.now row.path) c.self.inside.rows in
    let few = c.self.invariant.count in
    let same = ap length (c.in_ok-seen.ensures ∙ ap (covered c.get.result.now c.args.user.now) c.blocks-2.ensures) in
    omega (arith, short, few, same)
