-- The file's paths are taken out of all shares, and its new ones come into the last.
use Rattle.std.proofs.Common.{◌≡◌, ◌<◌, sym, ◌∙◌, ap, subst, arith, List, [], ◌∷◌, ◌++◌, length, set}
use Rattle.std.specs.List.Sorted.{IsPermutation}
use Rattle.partial_path.specs.declared.end_table.EndMark.{EndMark}
use Rattle.end_index.specs.declared.place.EndPlace.{EndPlace}
use Rattle.end_index.specs.Ends.{AreListed, SideView}
use Rattle.end_index.proofs.Fitted.{listed_set}
use Rattle.end_index.proofs.side.Side.put.Goals as goal

pub invariant_of-drop : goal.invariant_of-drop
invariant_of-drop c =
    let size : length c.args.self.now.marks ≡ length c.marks.inside.marks.items = ap (λ (s : SideView). length s.marks) (sym (c.marks.view_is ∙ c.replace.ensures.value)) in
    let inside : c.args.file < length c.marks.inside.marks.items = omega (arith, c.requires, size) in
    let moved = subst (λ (ps : List EndPlace). IsPermutation ps c.sort.new.places.items) c.in_ok-add_places.ensures c.sort.ensures.all in
    subst (λ (ms : List EndMark). AreListed (set c.marks.inside.marks.items c.args.file ms) c.push.new.self.items) (sym (c.of-2.ensures ∙ c.in_ok-from_slice.ensures.items))
    (subst (AreListed (set c.marks.inside.marks.items c.args.file c.args.own.now))
    (sym (c.in_ok-push.ensures.items ∙ ap (λ (ps : List EndPlace). c.last_of-last.new.shares.items ++ ps ∷ []) c.of.ensures))
    (listed_set c.args.file c.marks.inside.marks.items c.args.own.now c.marks.inside.shares.items c.last_of-last.new.shares.items c.last_of-last.result.items c.sort.new.places.items inside
    c.marks.invariant (sym c.in_ok-shares.ensures.all ∙ c.last_of-last.ensures.all) c.last_of-last.ensures.order moved c.sort.ensures.order))
