-- The reply to the query about the definitions that were named is that about them all.
use Rattle.std.proofs.Common.{◌∙◌, sym, ap, List, eqb-true, eq-eqb}
use Rattle.std.proofs.lemmas.Bool.{false≢true}
use Rattle.version_tree.specs.Contents.{FileRow}
use Rattle.version_tree.specs.Graphs.{graph_rows}
use Rattle.nav_answers.specs.Asking.{definitions_named}
use Rattle.nav_answers.proofs.United.{united, none_named, refused, no_other}
use Rattle.nav_answers.proofs.uniting.references_of_any.Goals as goal

pub returns-then-is_empty-clause-reply : goal.returns-then-is_empty-clause-reply
returns-then-is_empty-clause-reply g c _ =
    none_named c.args.bounds (graph_rows c.args.seen.now) c.args.definitions.now c.of.result c.as_slice-named.result.now
    (c.as_slice-named.ensures.value ∙ c.in_ok-hits.ensures ∙ ap (λ (v : List FileRow). definitions_named (graph_rows v) c.args.definitions.now) c.view.ensures)
    (eqb-true _ 0 (sym c.is_empty.ensures ∙ c.if-is_empty.true)) (c.of.ensures ∙ c.new.ensures.items)

pub returns-in-Ok-clause-reply : goal.returns-in-Ok-clause-reply
returns-in-Ok-clause-reply g c _ =
    united c.args.bounds (graph_rows c.args.seen.now) c.args.definitions.now c.as_slice-named.result.now c.in-Ok.answer
    (c.as_slice-named.ensures.value ∙ c.in_ok-hits.ensures ∙ ap (λ (v : List FileRow). definitions_named (graph_rows v) c.args.definitions.now) c.view.ensures)
    (c.in-Ok.ensures.reply (λ e. cc)) c.in-Ok.ensures.each

pub returns-clause-reply : goal.returns-clause-reply
returns-clause-reply g c h =
    refused c.args.bounds (graph_rows c.args.seen.now) c.args.definitions.now c.as_slice-named.result.now c.in-Err.fault
    (c.as_slice-named.ensures.value ∙ c.in_ok-hits.ensures ∙ ap (λ (v : List FileRow). definitions_named (graph_rows v) c.args.definitions.now) c.view.ensures)
    (λ none. false≢true (sym c.if-is_empty.false ∙ c.is_empty.ensures ∙ eq-eqb _ 0 none))
    (c.in-Err.ensures.reply (no_other c.in-Err.fault h))
