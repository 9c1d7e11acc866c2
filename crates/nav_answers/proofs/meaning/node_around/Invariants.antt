use Rattle.std.proofs.Common.{◌≡◌, drop}
use Rattle.nav_answers.specs.Kinds.{is_of, is_meant}
use Rattle.nav_answers.proofs.Spanned.{first_node}
use Rattle.nav_answers.proofs.meaning.node_around.Given as goal

-- none of those passed is the one
abbrev pub invariant-loop-found : goal.invariant-loop-found
invariant-loop-found l =
    first_node (is_meant (is_of l.asked) l.file.graph.nodes l.line l.column) l.spans
    ≡ first_node (is_meant (is_of l.asked) l.file.graph.nodes l.line l.column) (drop l.found-index l.spans)
