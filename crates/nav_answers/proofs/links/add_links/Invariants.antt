use Rattle.std.proofs.Common.{◌≡◌, ◌++◌, take}
use Rattle.nav_answers.specs.Links.{links_of}
use Rattle.nav_answers.proofs.links.add_links.Given as goal

abbrev pub invariant-loop-definition : goal.invariant-loop-definition
invariant-loop-definition l = l.list.items ≡ l.fn.list.items ++ links_of l.reference (take l.definition-index l.definitions)
