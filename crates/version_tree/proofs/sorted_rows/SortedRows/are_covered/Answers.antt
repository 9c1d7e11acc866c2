use Rattle.std.proofs.Common.{◌∙◌, sym}
use Rattle.version_tree.proofs.Placed.{operator-sees}
use Rattle.version_tree.proofs.sorted_rows.SortedRows.are_covered.Goals as goal

pub returns-then-eq : goal.returns-then-eq
returns-then-eq c = λ _. operator-sees c.args.grants.now c.args.user.now c.args.self.now (sym c.eq.ensures ∙ c.if-eq.true)
