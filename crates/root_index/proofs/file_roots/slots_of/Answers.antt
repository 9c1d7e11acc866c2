use Rattle.std.proofs.Common.{sym, ◌∙◌, ap, ◌+◌, ◌++◌, List, drop, arith, length, ◌<◌}
use Rattle.version_tree.specs.Contents.{FileRow}
use Rattle.root_index.specs.Roots.{RootPath, roots_of, all_roots}
use Rattle.root_index.proofs.Gathered.{row_added, no_row}
use Rattle.root_index.proofs.file_roots.slots_of.Goals as goal
use Rattle.root_index.proofs.file_roots.slots_of.Goals.{in-Some+in_ok-file+in_ok-add_slots, in_default}

-- the paths of the row are added; there is a row at each place
pub loop-i-preserved : goal.loop-i-preserved
loop-i-preserved c =
    let below : c.loop-i.i < length c.args.version.now.content.rows = omega (arith, c.loop-i-test.true, c.row_count-i-end.ensures.count) in
    elim c.match-row.branch [
      | in-Some+in_ok-file+in_ok-add_slots w ↦
          ap (λ (ps : List RootPath). ps ++ all_roots (drop (c.loop-i.i + 1) c.args.version.now.content.rows))
          (ap (λ v. v.items) w.slots-is ∙ w.in_ok-add_slots.ensures ∙ ap (λ (row : FileRow). c.loop-i.slots.items ++ roots_of row) w.in_ok-file.ensures)
          ∙ row_added c.args.version.now.content.rows c.loop-i.i _ c.loop-i.slots.items _ (sym w.in-Some.ensures) c.loop-i.invariant
      | in_default w ↦ absurd (no_row c.args.version.now.content.rows c.loop-i.i below (sym w.in_default.ensures))
    ]
