use Rattle.std.proofs.Common.{ap, sym, subst, Err}
use Rattle.version_tree.specs.Graphs.{graph_rows}
use Rattle.nav_answers.specs.declared.found.AskFault.{AskFault}
use Rattle.nav_answers.specs.Replies.{IsDefinitionReply}
use Rattle.nav_answers.proofs.Told.{definitions_told, crowded_told, was_crowded}
use Rattle.nav_answers.proofs.defining.define_node.Goals as goal

pub returns-in_ok-answer_of-in-Ok : goal.returns-in_ok-answer_of-in-Ok
returns-in_ok-answer_of-in-Ok c _ =
    definitions_told c.args.bounds c.args.view.now c.args.node c.in-Ok.found.rows c.in-Ok.found.limit c.in_ok-answer_of-in-Ok.field-0
    c.in-Ok.ensures.rows c.in-Ok.ensures.limit c.in-Ok.ensures.not_crowded c.in_ok-answer_of-in-Ok.ensures.rows c.in_ok-answer_of-in-Ok.ensures.limit

pub returns-in-Err : goal.returns-in-Err
returns-in-Err c h =
    let p = was_crowded c.in-Err.fault c.ask_fault.result c.ask_fault.ensures (λ e. h (ap (λ x. Err x) e)) in
    subst (λ (told : AskFault). IsDefinitionReply c.args.bounds (graph_rows c.args.view.now) c.args.node (Err told)) (sym p.1)
    (crowded_told c.args.bounds c.args.view.now c.args.node (c.in-Err.ensures.crowded (ap (λ x. Err x) p.0)))
