-- The part's files stand behind the others, and its paths are a share more.
use Rattle.std.proofs.Common.{◌≡◌, sym, ◌∙◌, ap, subst, ℕ, List, [], ◌∷◌, ◌++◌, length}
use Rattle.partial_path.specs.declared.end_table.EndMark.{EndMark}
use Rattle.end_index.specs.declared.place.EndPlace.{EndPlace}
use Rattle.end_index.specs.Ends.{AreListed, IsPartAt, SideView, part_of}
use Rattle.end_index.proofs.Fitted.{listed_more}
use Rattle.end_index.proofs.side.Side.add.Goals as goal

pub invariant_of-drop : goal.invariant_of-drop
invariant_of-drop c =
    let size : length c.args.self.now.marks ≡ length c.marks.inside.marks.items = ap (λ (s : SideView). length s.marks) (sym (c.marks.view_is ∙ c.replace.ensures.value)) in
    let part = part_of c.part.inside.marks.items c.part.inside.places.items in
    let at : IsPartAt (length c.marks.inside.marks.items) part =
    subst (IsPartAt (length c.marks.inside.marks.items)) (sym c.part.view_is) (subst (λ (n : ℕ). IsPartAt n c.args.part) size c.requires) in
    subst (λ (ms : List (List EndMark)). AreListed ms c.push.new.self.items) (sym c.in_ok-append.ensures.items)
    (subst (AreListed (c.marks.inside.marks.items ++ c.part.inside.marks.items))
    (sym (c.in_ok-push.ensures.items ∙ ap (λ (ps : List EndPlace). c.marks.inside.shares.items ++ ps ∷ []) c.of.ensures))
    (listed_more c.marks.inside.marks.items c.marks.inside.shares.items part c.marks.invariant at))
