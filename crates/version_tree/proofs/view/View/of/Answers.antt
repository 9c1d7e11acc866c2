use Rattle.std.proofs.Common.{◌≡◌, ap, sym, ◌∙◌, arith, length, take, ◌++◌, ◌∷◌, [], get_or, ◌<◌, ◌+◌}
use Rattle.std.proofs.lemmas.Option.{slice_get_within, get_or_from_slice_get}
use Rattle.version_tree.specs.Blocks.{all_rows}
use Rattle.version_tree.specs.Placed.{places_from, places_in, starts_from}
use Rattle.version_tree.proofs.Placed.{places-all, places-more, starts-more}
use Rattle.version_tree.proofs.view.View.of.Goals as goal

pub loop-i-preserved : goal.loop-i-preserved
loop-i-preserved c =
    let blocks = c.args.blocks in
    let lt : c.loop-i.i < length blocks = slice_get_within blocks c.loop-i.i c.block.result.now c.block.ensures.rows in
    let here : get_or blocks c.loop-i.i c.block.result.now ≡ c.block.result.now = get_or_from_slice_get blocks c.loop-i.i c.block.result.now c.block.result.now c.block.ensures.rows in
    let zero-plus : 0 + c.loop-i.i ≡ c.loop-i.i = omega arith in
    let table = c.loop-i.places.ok.0 in
    let told = ap length c.loop-i.invariant.1 in
    let all = places-all 0 (take c.loop-i.i blocks) in
    let told-2 = c.len-in-loop-i.ensures in
    let before : c.len-in-loop-i.result ≡ 0 + length (all_rows (take c.loop-i.i blocks)) = omega (arith, table, told, all, told-2) in (
      c.in_ok-push.ensures.items
          ∙ ap (λ r. r ++ c.len-in-loop-i.result ∷ []) c.loop-i.invariant.0
          ∙ ap (λ n. starts_from 0 (take c.loop-i.i blocks) ++ n ∷ []) before
          ∙ sym (starts-more 0 blocks c.loop-i.i lt),
      c.in_ok-add_places.ensures
          ∙ ap (λ r. r ++ places_in c.loop-i.i 0 c.len-in-loop-i-2.result) c.loop-i.invariant.1
          ∙ ap (λ n. places_from 0 (take c.loop-i.i blocks) ++ places_in c.loop-i.i 0 n) (c.len-in-loop-i-2.ensures.count ∙ ap length (sym here))
          ∙ ap (λ n. places_from 0 (take c.loop-i.i blocks) ++ places_in n 0 (length (get_or blocks c.loop-i.i c.block.result.now))) (sym zero-plus)
          ∙ sym (places-more 0 blocks c.loop-i.i c.block.result.now lt),
    )
