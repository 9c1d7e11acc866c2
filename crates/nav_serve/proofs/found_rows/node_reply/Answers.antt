-- The search found the definitions.
use Rattle.std.proofs.Common.{[], ◌∷◌, ap, Err}
use Rattle.partial_path.specs.Spots.{node_at}
use Rattle.partial_path.specs.Step.{start}
use Rattle.nav_serve.proofs.Found.{is_usual, answers_found, answers_refused}
use Rattle.nav_serve.proofs.found_rows.node_reply.Goals as goal

pub returns-in-Ok-clause-reply : goal.returns-in-Ok-clause-reply
returns-in-Ok-clause-reply c =
    let s = c.in-Ok.ensures in
    answers_found c.args.graph (start (c.args.graph ∷ []) (node_at 0 c.args.n)) c.usual.result
    c.in-Ok.found c.in_ok-answer_of-in-Ok.field-0
    (is_usual c.usual.result c.usual.ensures.edges c.usual.ensures.depth)
    (record { rows = s.rows; limit = s.limit; not_crowded = s.not_crowded }) c.in_ok-answer_of-in-Ok.ensures

pub returns-clause-reply : goal.returns-clause-reply
returns-clause-reply c =
    answers_refused c.args.graph (start (c.args.graph ∷ []) (node_at 0 c.args.n)) c.usual.result c.in-Err.fault c.refused_by.result
    (is_usual c.usual.result c.usual.ensures.edges c.usual.ensures.depth) c.refused_by.ensures.reply c.refused_by.ensures.crowded
    (λ e. c.in-Err.ensures.crowded (ap (λ x. Err x) e))
