use Rattle.std.proofs.Common.{ap, sym, ◌∙◌, Some}
use Rattle.std.specs.Option.{option_map}
use Rattle.version_tree.specs.declared.edit.EditFault.TheVariants.{Twice}
use Rattle.version_tree.proofs.Twice as repeated
use Rattle.version_tree.proofs.repeats.no_path_twice.Goals as goal

pub returns-in-Some : goal.returns-in-Some
returns-in-Some c =
    let some = rw c.as_slice.ensures.value at c.in-Some.ensures in
    λ ne. ap (option_map Twice) (sym (repeated.told (λ p. p.now) _ _ _ c.in_ok-paths.ensures c.in_ok-sort_paths.ensures.moved c.in_ok-sort_paths.ensures.sorted) ∙ some) ∙ ap (λ p. Some (Twice p)) (sym c.in_ok-copy-in-Some.ensures)

pub returns : goal.returns
returns c =
    let none = rw c.as_slice.ensures.value at c.in-None.ensures in
    ap (option_map Twice) (sym (repeated.told (λ p. p.now) _ _ _ c.in_ok-paths.ensures c.in_ok-sort_paths.ensures.moved c.in_ok-sort_paths.ensures.sorted) ∙ none)
