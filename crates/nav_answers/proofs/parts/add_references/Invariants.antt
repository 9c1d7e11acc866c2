use Rattle.std.proofs.Common.{◌≡◌, ◌++◌, take}
use Rattle.nav_answers.specs.Links.{references_among}
use Rattle.nav_answers.proofs.parts.add_references.Given as goal

abbrev pub invariant-loop-link : goal.invariant-loop-link
invariant-loop-link l = l.rows.items ≡ l.fn.rows.items ++ references_among (take l.link-index l.links)
