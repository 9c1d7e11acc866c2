use Rattle.std.proofs.Common.{ap, ◌∙◌, arith, length, take, ◌+◌}
use Rattle.version_tree.specs.Blocks.{all_rows}
use Rattle.version_tree.specs.Views.{path_at}
use Rattle.version_tree.proofs.Placed.{starts-all, start-of, path-within}
use Rattle.version_tree.proofs.view.View.find.Goals as goal

pub index-requires : goal.index-requires
index-requires c =
    let all = starts-all 0 c.self.inside.blocks in
    let table = c.self.inside.starts.ok.0 in
    let same = ap length c.self.invariant.1 in
    let lt = c.in_ok-block.ensures.0 in
    omega (arith, all, table, same, lt)

pub overflow_add-result : goal.overflow_add-result
overflow_add-result c =
    let start = start-of c.self.inside.blocks c.in_ok-block.block c.self.inside.starts.items c.index.result.now c.self.invariant.1 c.in_ok-block.ensures.0 c.index.ensures in
    let within = path-within c.args.path.now (all_rows c.self.inside.blocks) (length (all_rows (take c.in_ok-block.block c.self.inside.blocks)) + c.in_ok-block.row) c.in_ok-block.ensures.1 in
    let few = c.self.invariant.0 in
    omega (arith, start, within, few)

pub overflow_cast-result : goal.overflow_cast-result
overflow_cast-result c =
    let start = start-of c.self.inside.blocks c.in_ok-block.block c.self.inside.starts.items c.index.result.now c.self.invariant.1 c.in_ok-block.ensures.0 c.index.ensures in
    let within = path-within c.args.path.now (all_rows c.self.inside.blocks) (length (all_rows (take c.in_ok-block.block c.self.inside.blocks)) + c.in_ok-block.row) c.in_ok-block.ensures.1 in
    let few = c.self.invariant.0 in
    omega (arith, start, within, few)

pub returns : goal.returns
returns c =
    let start = start-of c.self.inside.blocks c.in_ok-block.block c.self.inside.starts.items c.index.result.now c.self.invariant.1 c.in_ok-block.ensures.0 c.index.ensures in
    rw (← c.self.view_is) (ap (λ n. path_at (all_rows c.self.inside.blocks) (n + c.in_ok-block.row)) start ∙ c.in_ok-block.ensures.1)
