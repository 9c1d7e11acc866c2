use Rattle.std.proofs.Common.{subst, sym}
use Rattle.index_gate.specs.Indexed.{AreIndexed}
use Rattle.nav_session.proofs.Kept.{swept_indexed}
use Rattle.nav_session.proofs.desk.Desk.sweep_after.Goals as goal

-- the documents that stay still have no fault, and all paths of their graphs
pub invariant_of-self : goal.invariant_of-self
invariant_of-self c = subst AreIndexed (sym c.sweep.ensures) (swept_indexed c.self.inside.keeps c.self.inside.store c.self.invariant)
