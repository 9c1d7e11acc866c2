use Rattle.std.proofs.Common.{subst}
use Rattle.root_index.specs.Roots.{RootPath, root_key}
use Rattle.root_index.specs.Heads.{AreHeads}
use Rattle.root_index.proofs.KeyOrders.{root_key_short}
use Rattle.root_index.proofs.slot.Slot.order_of_keys.Goals as goal

pub returns-in-Some : goal.returns-in-Some
returns-in-Some c =
    c.in-Some.ensures (root_key c.args.self.now) (root_key c.args.other.now)
    (subst (λ (p : RootPath). AreHeads c.self.inside.heads (root_key p)) c.self.view_is c.self.invariant.1)
    (subst (λ (p : RootPath). AreHeads c.other.inside.heads (root_key p)) c.other.view_is c.other.invariant.1)
    (root_key_short c.args.self.now) (root_key_short c.args.other.now)
