use Rattle.std.proofs.Common.{rules, ◌≡◌, sym, ap, subst, slice_get, Some}
use Rattle.stacks_vars.specs.Head.{IsHead}
use Rattle.root_index.specs.Heads.{AreHeads, AreTails}
use Rattle.root_index.specs.Roots.{RootPath, root_key}
use Rattle.root_index.proofs.HeadOrders.{side_told}
use Rattle.root_index.proofs.slot.Slot.text_side.Goals as goal

pub returns-in-Some : goal.returns-in-Some
returns-in-Some c =
    let heads : AreHeads c.self.inside.heads (root_key c.args.self.now) = subst (λ (p : RootPath). AreHeads c.self.inside.heads (root_key p)) c.self.view_is c.self.invariant.1 in
    side_told _ (slice_get (root_key c.args.self.now) c.args.i) c.args.wanted.now c.in-Some.order (heads c.args.i c.requires) c.if-head-eq0.false
    (c.in-Some.ensures.told (slice_get (root_key c.args.self.now) c.args.i) (Some c.args.wanted.now) (heads c.args.i c.requires) c.head.ensures)

pub returns-in-Some-tails_cmp : goal.returns-in-Some-tails_cmp
returns-in-Some-tails_cmp c =
    let heads : AreHeads c.self.inside.heads (root_key c.args.self.now) = subst (λ (p : RootPath). AreHeads c.self.inside.heads (root_key p)) c.self.view_is c.self.invariant.1 in
    let tails : AreTails c.self.inside.tails (root_key c.args.self.now) = subst (λ (p : RootPath). AreTails c.self.inside.tails (root_key p)) c.self.view_is c.self.invariant.2 in
    let same = c.in_default.ensures.long in
    side_told _ (slice_get (root_key c.args.self.now) c.args.i) c.args.wanted.now c.in-Some-tails_cmp.order (heads c.args.i c.requires) c.if-head-eq0.false
    (c.in-Some-tails_cmp.ensures (slice_get (root_key c.args.self.now) c.args.i) (Some c.args.wanted.now) (heads c.args.i c.requires)
    (subst (λ n. IsHead n c.args.wanted.now) (sym same.0) c.head.ensures) (tails c.args.i c.requires) c.tail_of.ensures)
