use Rattle.std.proofs.Common.{rules, ◌≡◌, ◌∙◌, ap, sym, ℕ, ◌+◌, ◌<◌, ◌++◌, List, length, take, get_or}
use Rattle.std.proofs.lemmas.List.{get_or_default}
use Rattle.whole_search.specs.declared.found.Hit.{Hit}
use Rattle.nav_answers.specs.declared.links.Link.{Link}
use Rattle.nav_answers.specs.Links.{links_in, rows_of_any, rows_of_one}
use Rattle.nav_answers.proofs.Linked.{rows_more}
use Rattle.nav_answers.proofs.parts.Parts.rows_of_any.Goals as goal

-- the references of the definition that is next are added
grown : (list : List Link) (definitions : List Hit) (i : ℕ) (d : Hit) (rows next : List Hit) → i < length definitions → rows ≡ rows_of_any list (take i definitions)
    → next ≡ rows ++ rows_of_one list (get_or definitions i d) → next ≡ rows_of_any list (take (i + 1) definitions)
grown list definitions i d rows next inside so_far more =
    rows_more list definitions i (get_or definitions i d) rows next inside (get_or_default definitions i d (get_or definitions i d) inside) so_far more

pub loop-definition-preserved : goal.loop-definition-preserved
loop-definition-preserved c =
    let same : c.args.self.now.list ≡ links_in c.deref.result.now = search rules in
    grown c.args.self.now.list c.args.definitions.now c.loop-definition.definition-index record { file = 0; node = 0 } c.loop-definition.rows.items c.add_rows_of.new.rows.items
    c.loop-definition-test.true c.loop-definition.invariant
    (c.in_ok-add_rows_of.ensures ∙ ap (λ (list : List Link). c.loop-definition.rows.items ++ rows_of_one list (get_or c.args.definitions.now c.loop-definition.definition-index record { file = 0; node = 0 })) (sym same))
