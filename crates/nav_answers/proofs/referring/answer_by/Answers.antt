use Rattle.std.proofs.Common.{◌∙◌, inr}
use Rattle.list_facts.proofs.Members.{IsIn-from_Contains}
use Rattle.nav_answers.specs.Asking.{IsHeld}
use Rattle.nav_answers.specs.Sources.{graphs_seen}
use Rattle.nav_answers.proofs.Referred.{references_told, references_there, references_alone}
use Rattle.nav_answers.proofs.referring.answer_by.Goals as goal

pub returns-clause-reply : goal.returns-clause-reply
returns-clause-reply c _ =
    references_told c.args.bounds c.args.view.now c.args.definitions.now c.in_ok-rows.rows c.args.parts.now.limit c.in_ok-answer.answer
    c.in_ok-rows.ensures c.requires.limit_is c.requires.few c.in_ok-answer.ensures.rows (c.in_ok-answer.ensures.limit ∙ c.limit.ensures)

pub returns-clause-each : goal.returns-clause-each
returns-clause-each c definition m =
    references_there c.args.bounds c.args.view.now definition
    (references_alone c.args.bounds (graphs_seen c.args.view.now) (IsHeld c.args.parts.now.whole c.args.definitions.now) c.args.parts.now.list c.args.parts.now.limit c.requires definition
    (inr (IsIn-from_Contains c.args.definitions.now definition m)))
