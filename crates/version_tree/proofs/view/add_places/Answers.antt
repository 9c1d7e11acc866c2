use Rattle.std.proofs.Common.{◌≡◌, ◌++◌, ◌+◌, ◌∷◌, [], ap, sym, ◌∙◌, arith}
use Rattle.std.proofs.lemmas.List.{append_assoc}
use Rattle.version_tree.specs.Placed.{places_in, row_place}
use Rattle.version_tree.proofs.Placed.{place-more}
use Rattle.version_tree.proofs.view.add_places.Goals as goal

pub loop-row-preserved : goal.loop-row-preserved
loop-row-preserved c =
    let e : c.loop-row.row ≡ 0 + c.loop-row.row = omega arith in
    c.in_ok-push.ensures.items
    ∙ ap (λ r. r ++ row_place c.args.block c.loop-row.row ∷ []) c.loop-row.invariant
    ∙ append_assoc c.args.places.now.items (places_in c.args.block 0 c.loop-row.row) (row_place c.args.block c.loop-row.row ∷ [])
    ∙ ap (λ r. c.args.places.now.items ++ r) (ap (λ k. places_in c.args.block 0 c.loop-row.row ++ row_place c.args.block k ∷ []) e ∙ sym (place-more c.args.block 0 c.loop-row.row))
