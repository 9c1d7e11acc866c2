use Rattle.std.proofs.Common.{◌≡◌, take}
use Rattle.nav_answers.specs.Links.{rows_of_any}
use Rattle.nav_answers.proofs.parts.Parts.rows_of_any.Given as goal

abbrev pub invariant-loop-definition : goal.invariant-loop-definition
invariant-loop-definition l = l.rows.items ≡ rows_of_any l.self.list (take l.definition-index l.definitions)
