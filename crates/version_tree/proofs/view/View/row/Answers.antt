use Rattle.std.proofs.Common.{ap, sym, ◌∙◌, arith, length}
use Rattle.version_tree.proofs.Placed.{places-all, standing}
use Rattle.version_tree.proofs.view.View.row.Goals as goal

pub index-place-requires : goal.index-place-requires
index-place-requires c =
    let all = places-all 0 c.self.inside.blocks in
    let table = c.self.inside.places.ok.0 in
    let same = ap length c.self.invariant.2 in
    let seen = ap length c.self.view_is in
    let lt = c.requires in
    omega (arith, all, table, same, seen, lt)

pub block-requires : goal.block-requires
block-requires c =
    let seen = ap length c.self.view_is in
    let lt = c.requires in
    (standing c.self.inside.blocks c.args.file c.self.inside.places.items c.index-place.result.now c.self.invariant.2 (omega (arith, seen, lt)) c.index-place.ensures).block

pub row-requires : goal.row-requires
row-requires c =
    let seen = ap length c.self.view_is in
    let lt = c.requires in
    (standing c.self.inside.blocks c.args.file c.self.inside.places.items c.index-place.result.now c.self.invariant.2 (omega (arith, seen, lt)) c.index-place.ensures).row
    c.block.result.now c.block.ensures.rows

pub returns : goal.returns
returns c =
    let seen = ap length c.self.view_is in
    let lt = c.requires in
    rw (← c.self.view_is) (sym ((standing c.self.inside.blocks c.args.file c.self.inside.places.items c.index-place.result.now c.self.invariant.2 (omega (arith, seen, lt)) c.index-place.ensures).there
    c.block.result.now c.block.ensures.rows) ∙ c.row.ensures)
