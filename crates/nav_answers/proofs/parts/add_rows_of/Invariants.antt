use Rattle.std.proofs.Common.{◌≡◌, ◌++◌, take}
use Rattle.nav_answers.specs.Links.{links_in, rows_of_one}
use Rattle.nav_answers.proofs.parts.add_rows_of.Given as goal

-- the references in the lists so far
abbrev pub invariant-loop-list : goal.invariant-loop-list
invariant-loop-list l = l.rows.items ≡ l.fn.rows.items ++ rows_of_one (links_in (take l.list-index l.lists)) l.definition
