use Rattle.std.proofs.Common.{◌<◌, arith, ap, sym, ◌∙◌, length}
use Rattle.version_tree.proofs.Joined.{some-of, tie-place, gap-place}
use Rattle.version_tree.proofs.blocks.Blocks.place.Goals as goal

pub returns-in-Ok : goal.returns-in-Ok
returns-in-Ok c = tie-place c.args.path.now c.args.self.now c.in-Ok.i c.in-Ok.ensures.blocks c.in-Ok.ensures.found

pub returns-in-Err : goal.returns-in-Err
returns-in-Err c =
    let len = some-of c.self.inside.blocks.len (sym c.is_empty.ensures ∙ c.if-is_empty.false) in
    let same = c.self.inside.blocks.ok.0 ∙ ap length c.self.view_is in
    let some : 0 < length c.args.self.now = omega (arith, len, same) in
    rw c.saturating_sub.ensures (gap-place c.args.path.now c.args.self.now c.in-Err.i c.in-Err.ensures.blocks some c.in-Err.ensures.absent)
