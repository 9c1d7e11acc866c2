-- The last edge decides.
use Rattle.std.proofs.Common.{sym, ◌∙◌}
use Rattle.whole_search.proofs.Following.{ends_cut-last}
use Rattle.whole_search.proofs.spot.ends_cut.Goals as goal

pub returns-in-Some : goal.returns-in-Some
returns-in-Some c = c.is_cut_edge.ensures ∙ ends_cut-last c.args.files.now c.args.edges.now c.in-Some.edge.now (sym c.in-Some.ensures.value)
