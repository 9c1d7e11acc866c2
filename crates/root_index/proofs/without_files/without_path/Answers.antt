use Rattle.std.proofs.Common.{sym, subst}
use Rattle.version_tree.specs.Contents.{FileRow}
use Rattle.root_index.specs.Amended.{AreOf}
use Rattle.root_index.specs.Blocks.{all_paths}
use Rattle.root_index.proofs.WithoutFile.{of_file, of_none}
use Rattle.root_index.proofs.without_files.without_path.Goals as goal

pub without_file-requires-clause-from : goal.without_file-requires-clause-from
without_file-requires-clause-from c =
    subst (λ (row : FileRow). AreOf row (all_paths c.args.groups)) (sym c.in_ok-file-in-Some.ensures)
    (of_file c.args.path.now c.args.old.now.content.rows c.in-Some.paths.now (all_paths c.args.groups) c.row_count-count.ensures.rows.order c.in-Some.ensures c.requires.from)

pub returns-in-None : goal.returns-in-None
returns-in-None c =
    of_none c.args.path.now c.args.old.now.content.rows (all_paths c.args.groups) c.row_count-count.ensures.rows.order c.in-None.ensures c.requires.from
