-- The paths of one block without the path are the block's among all paths without it.
use Rattle.std.proofs.Common.{sym, ap, ◌∙◌, ◌-◌}
use Rattle.std.specs.List.{remove}
use Rattle.std.proofs.lemmas.Bool.{cond-true, cond-false}
use Rattle.std.proofs.lemmas.List.{get_or_read}
use Rattle.root_index.specs.Blocks.{is_tied}
use Rattle.root_index.proofs.Placed.{out_there, none_there, last_inside}
use Rattle.root_index.proofs.blocks.Blocks.without.Goals as goal

-- none stands no higher
pub returns-in_default : goal.returns-in_default
returns-in_default c = sym (none_there c.args.slot.now c.args.self c.requires.strict c.in_default.ensures)

-- the last that stands no higher stands lower
pub returns-then-not-is_tied : goal.returns-then-not-is_tied
returns-then-not-is_tied c =
    let here = rw c.self.view_is at c.index.ensures in
    let found = c.in-Some.ensures.0 in
    let inside = last_inside c.args.slot.now c.args.self c.in-Some.block c.in-Some.place c.index.result.now here found c.in-Some.ensures.1 in
    let last = sym (get_or_read c.index.result.now (c.in-Some.place - 1) c.index-slots-last.result inside (rw c.slots.ensures.slots at c.index-slots-last.is) c.args.slot.now) in
    sym (out_there c.args.slot.now c.args.self c.in-Some.block c.in-Some.place c.index.result.now here found c.in-Some.ensures.1 c.requires.strict
    ∙ cond-false _ _ _ (ap (is_tied c.args.slot.now) last ∙ sym c.is_tied.ensures ∙ c.if-not-is_tied.true))

pub returns : goal.returns
returns c =
    let here = rw c.self.view_is at c.index.ensures in
    let found = c.in-Some.ensures.0 in
    let inside = last_inside c.args.slot.now c.args.self c.in-Some.block c.in-Some.place c.index.result.now here found c.in-Some.ensures.1 in
    let last = sym (get_or_read c.index.result.now (c.in-Some.place - 1) c.index-slots-last.result inside (rw c.slots.ensures.slots at c.index-slots-last.is) c.args.slot.now) in
    let gone = out_there c.args.slot.now c.args.self c.in-Some.block c.in-Some.place c.index.result.now here found c.in-Some.ensures.1 c.requires.strict
    ∙ cond-true _ _ _ (ap (is_tied c.args.slot.now) last ∙ sym c.is_tied.ensures ∙ c.if-not-is_tied.false) in
    let again = get_or_read c.args.self c.in-Some.block c.index-2.result.now found.in_range (rw c.self.view_is at c.index-2.ensures) c.index.result.now ∙ sym here in
    let changed = c.remove.ensures.items ∙ ap (λ xs. remove xs (c.in-Some.place - 1)) (c.in_ok-slots.ensures ∙ again) in
    rw (gone, ← changed) c.replaced.ensures
