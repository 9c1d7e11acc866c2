use Rattle.std.proofs.Common.{List, sym, subst}
use Rattle.std.specs.Arc.{arc_value}
use Rattle.root_index.specs.Roots.{RootPath, IsIndexOf}
use Rattle.version_board.proofs.Ranked.{index_is}
use Rattle.version_board.proofs.plain.PlainBoardPins.pinned.Goals as goal

pub returns-clause-index : goal.returns-clause-index
returns-clause-index c =
    subst (λ (ps : List RootPath). IsIndexOf (arc_value c.self.inside.pinned.version).content.rows ps) (sym c.self.invariant.1)
    (index_is (arc_value c.self.inside.pinned.version).content.rows)
