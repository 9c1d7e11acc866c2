use Rattle.std.proofs.Common.{sym, subst, ◌++◌}
use Rattle.std.specs.List.Sorted.{IsPermutation}
use Rattle.std.proofs.lemmas.List.Sorted.{IsPermutation-append_comm}
use Rattle.std.proofs.lemmas.Result.{on_ok_weaker}
use Rattle.root_index.specs.Roots.{roots_of}
use Rattle.root_index.proofs.WithFile.{rows_of_file, no_file_in}
use Rattle.root_index.proofs.with_files.add_path.Goals as goal

pub returns-in_ok-file-in-Some : goal.returns-in_ok-file-in-Some
returns-in_ok-file-in-Some c =
    let same = rows_of_file c.args.path.now c.args.new.now.content.rows c.in-Some.paths.now c.in_ok-file-in-Some.file c.row_count-count.ensures.rows.order c.in-Some.ensures c.in_ok-file-in-Some.ensures in
    on_ok_weaker c.add_slots.result
    (λ e. subst (λ ps. IsPermutation (ps ++ c.args.slots.now.items) c.add_slots.new.slots.items) (sym same)
    (subst (IsPermutation (roots_of c.in_ok-file-in-Some.file ++ c.args.slots.now.items)) (sym e)
    (IsPermutation-append_comm (roots_of c.in_ok-file-in-Some.file) c.args.slots.now.items)))
    c.add_slots.ensures

pub returns-in-None : goal.returns-in-None
returns-in-None c =
    no_file_in c.args.path.now c.args.new.now.content.rows c.args.slots.now.items c.row_count-count.ensures.rows.order c.in-None.ensures
