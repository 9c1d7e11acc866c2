use Rattle.std.proofs.Common.{sym, ◌∙◌, subst, ◌+◌, ◌++◌, take}
use Rattle.std.specs.List.Sorted.{IsPermutation}
use Rattle.std.proofs.lemmas.List.{take_all}
use Rattle.std.proofs.lemmas.List.Sorted.{IsPermutation-refl}
use Rattle.root_index.specs.Roots.{all_roots}
use Rattle.root_index.specs.Amended.{touched_rows}
use Rattle.root_index.proofs.WithFile.{edit_in, again_in, other_in, none_touched}
use Rattle.root_index.proofs.with_files.add_edited.Goals as goal
use Rattle.root_index.proofs.with_files.add_edited.Goals.{in-Some+then-not-is_touched+in_ok-add_path, in-Some+else-not-is_touched, in_default}

pub loop-i-init : goal.loop-i-init
loop-i-init c =
    subst (λ rs. IsPermutation (all_roots rs ++ c.args.slots.now.items) c.args.slots.now.items) (sym (none_touched c.args.new.now.content.rows)) (IsPermutation-refl c.args.slots.now.items)

-- the paths of the file that the edit puts are added once
pub loop-i-preserved : goal.loop-i-preserved
loop-i-preserved c = elim c.match-path_of.branch [
  | in-Some+then-not-is_touched+in_ok-add_path w ↦
      subst (λ v. IsPermutation (all_roots (touched_rows (take (c.loop-i.i + 1) c.args.edits.now) c.args.new.now.content.rows) ++ c.args.slots.now.items) v.items) (sym w.slots-is)
      (edit_in c.args.edits.now c.loop-i.i c.index-edits-i.result c.args.new.now.content.rows c.loop-i-test.true (sym c.index-edits-i.is) w.in-Some.path.now w.in-Some.ensures
      (sym w.is_touched.ensures ∙ w.if-not-is_touched.true) c.args.slots.now.items c.loop-i.slots.items _ c.loop-i.invariant w.in_ok-add_path.ensures)
  | in-Some+else-not-is_touched w ↦
      subst (λ v. IsPermutation (all_roots (touched_rows (take (c.loop-i.i + 1) c.args.edits.now) c.args.new.now.content.rows) ++ c.args.slots.now.items) v.items) (sym w.slots-is)
      (subst (λ rs. IsPermutation (all_roots rs ++ c.args.slots.now.items) c.loop-i.slots.items)
      (again_in c.args.edits.now c.loop-i.i c.index-edits-i.result c.args.new.now.content.rows c.loop-i-test.true (sym c.index-edits-i.is) w.in-Some.path.now w.in-Some.ensures
      (sym w.is_touched.ensures ∙ w.if-not-is_touched.false)) c.loop-i.invariant)
  | in_default w ↦
      subst (λ v. IsPermutation (all_roots (touched_rows (take (c.loop-i.i + 1) c.args.edits.now) c.args.new.now.content.rows) ++ c.args.slots.now.items) v.items) (sym w.slots-is)
      (subst (λ rs. IsPermutation (all_roots rs ++ c.args.slots.now.items) c.loop-i.slots.items)
      (other_in c.args.edits.now c.loop-i.i c.index-edits-i.result c.args.new.now.content.rows c.loop-i-test.true (sym c.index-edits-i.is) w.in_default.ensures) c.loop-i.invariant)
]

pub returns : goal.returns
returns c =
    subst (λ es. IsPermutation (all_roots (touched_rows es c.args.new.now.content.rows) ++ c.args.slots.now.items) c.loop-i.slots.items)
    (take_all c.loop-i.i c.args.edits.now c.loop-i-test.false) c.loop-i.invariant
