use Rattle.std.proofs.Common.{◌≡◌, take}
use Rattle.nav_answers.specs.Links.{links_to_any}
use Rattle.nav_answers.proofs.links.links_to_any.Given as goal

abbrev pub invariant-loop-definition : goal.invariant-loop-definition
invariant-loop-definition l = l.links.items ≡ links_to_any l.list (take l.definition-index l.definitions)
