use Rattle.std.proofs.Common.{◌≡◌, subst, slice_get}
use Rattle.root_index.specs.Heads.{AreHeads}
use Rattle.root_index.specs.Roots.{RootPath, root_key}
use Rattle.root_index.proofs.HeadOrders.{other_text}
use Rattle.root_index.proofs.slot.Slot.ends_before.Goals as goal

pub returns-then-head-other : goal.returns-then-head-other
returns-then-head-other c =
    let heads : AreHeads c.self.inside.heads (root_key c.args.self.now) = subst (λ (p : RootPath). AreHeads c.self.inside.heads (root_key p)) c.self.view_is c.self.invariant.1 in
    let others : AreHeads c.other.inside.heads (root_key c.args.other.now) = subst (λ (p : RootPath). AreHeads c.other.inside.heads (root_key p)) c.other.view_is c.other.invariant.1 in
    let there = other_text _ _ (slice_get (root_key c.args.self.now) c.loop-i.i) (slice_get (root_key c.args.other.now) c.loop-i.i)
    (heads c.loop-i.i c.loop-i-test.true) (others c.loop-i.i c.loop-i-test.true) c.if-head-eq0.false c.if-head-other.true in
    λ _. record { place = c.loop-i.i; text = there.0; there = there.1; other_there = there.2 }
