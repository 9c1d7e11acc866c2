use Rattle.std.specs.Prelude.{Some}
use Rattle.std.proofs.Common.{ap, ◌∙◌}
use Rattle.index_gate.proofs.Adding.{finds_some}
use Rattle.index_gate.proofs.indexing.find_shared.Goals as goal

pub returns-in_ok-share-in-Some : goal.returns-in_ok-share-in-Some
returns-in_ok-share-in-Some c =
    finds_some c.args.store.now c.args.doc.now c.in_ok-share-in-Some.field-0 (ap Some c.in_ok-share-in-Some.ensures ∙ c.in-Some.ensures.value) c.requires
