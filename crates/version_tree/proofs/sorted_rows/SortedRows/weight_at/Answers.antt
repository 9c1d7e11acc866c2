use Rattle.std.proofs.Common.{ap, ◌∙◌}
use Rattle.version_tree.specs.Contents.{FileRow}
use Rattle.version_tree.proofs.Weights as weights
use Rattle.version_tree.proofs.sorted_rows.SortedRows.weight_at.Goals as goal

pub returns-in-Ok-clause-without : goal.returns-in-Ok-clause-without
returns-in-Ok-clause-without c = weights.at-weight-without c.args.path.now c.args.self.now c.in-Ok.i c.in-Ok.ensures.found c.in-Ok.ensures.rows.order c.from.result (c.from.ensures ∙ c.weight.ensures ∙ ap (λ (r : FileRow). r.file.weight) ((rw c.self.view_is at c.index.ensures) ∙ c.in-Ok.ensures.found.here _))

pub returns-in-Ok-clause-with : goal.returns-in-Ok-clause-with
returns-in-Ok-clause-with c = weights.at-weight-with c.args.path.now c.args.self.now c.in-Ok.i c.in-Ok.ensures.found c.in-Ok.ensures.rows.order c.from.result (c.from.ensures ∙ c.weight.ensures ∙ ap (λ (r : FileRow). r.file.weight) ((rw c.self.view_is at c.index.ensures) ∙ c.in-Ok.ensures.found.here _))

pub returns-in-Err-clause-without : goal.returns-in-Err-clause-without
returns-in-Err-clause-without c = weights.gap-weight-without c.args.path.now c.args.self.now _ c.in-Err.ensures.absent

pub returns-in-Err-clause-with : goal.returns-in-Err-clause-with
returns-in-Err-clause-with c = weights.gap-weight-with c.args.path.now c.args.self.now _ c.in-Err.ensures.absent
