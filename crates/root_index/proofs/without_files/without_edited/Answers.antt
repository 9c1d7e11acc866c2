use Rattle.std.proofs.Common.{sym, ◌∙◌, ap, subst, not, take}
use Rattle.std.proofs.lemmas.List.Elements.{All-filter}
use Rattle.root_index.specs.Roots.{RootPath, AreByRank}
use Rattle.root_index.specs.Amended.{AreFrom, IsFrom, is_touched, without_file}
use Rattle.root_index.specs.Blocks.{IsStrict, all_paths}
use Rattle.root_index.proofs.Unique.{strict_index}
use Rattle.root_index.proofs.WithoutFile.{order_kept, strict_kept, from_index, edit_out, other_edit, no_edits}
use Rattle.root_index.proofs.without_files.without_edited.Goals as goal
use Rattle.root_index.proofs.without_files.without_edited.Goals.{in-Some+in_ok-rest, in_default}

pub loop-edit-init : goal.loop-edit-init
loop-edit-init c = no_edits (all_paths c.args.groups)

pub without_path-requires-clause-order : goal.without_path-requires-clause-order
without_path-requires-clause-order c =
    subst AreByRank (sym c.loop-edit.invariant)
    (order_kept (λ (p : RootPath). not (is_touched (take c.loop-edit.edit-index c.args.edits.now) p.path)) (all_paths c.args.groups) c.requires.order)

pub without_path-requires-clause-strict : goal.without_path-requires-clause-strict
without_path-requires-clause-strict c =
    subst IsStrict (sym c.loop-edit.invariant)
    (strict_kept (λ (p : RootPath). not (is_touched (take c.loop-edit.edit-index c.args.edits.now) p.path)) (all_paths c.args.groups)
    (strict_index c.args.old.now.content.rows (all_paths c.args.groups) c.row_count-count.ensures.rows.order c.requires))

pub without_path-requires-clause-from : goal.without_path-requires-clause-from
without_path-requires-clause-from c =
    subst (AreFrom c.args.old.now.content.rows) (sym c.loop-edit.invariant)
    (All-filter (λ (p : RootPath). not (is_touched (take c.loop-edit.edit-index c.args.edits.now) p.path)) (IsFrom c.args.old.now.content.rows) (all_paths c.args.groups)
    (from_index c.args.old.now.content.rows (all_paths c.args.groups) c.requires))

pub loop-edit-preserved : goal.loop-edit-preserved
loop-edit-preserved c = elim c.match-path_of.branch [
  | in-Some+in_ok-rest w ↦
      ap all_paths w.rest-is ∙ w.in_ok-rest.ensures ∙ ap (without_file w.in-Some.path.now) c.loop-edit.invariant
      ∙ edit_out c.args.edits.now c.loop-edit.edit-index c.edit-item.result w.in-Some.path.now (all_paths c.args.groups) c.loop-edit-test.true (sym c.edit-item.is) w.in-Some.ensures
  | in_default w ↦
      ap all_paths w.rest-is ∙ c.loop-edit.invariant
      ∙ other_edit c.args.edits.now c.loop-edit.edit-index c.edit-item.result (all_paths c.args.groups) c.loop-edit-test.true (sym c.edit-item.is) w.in_default.ensures
]
