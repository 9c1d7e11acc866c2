use Rattle.std.proofs.Common.{rules}
use Rattle.partial_path.specs.Starts.{begins_at}
use Rattle.partial_path.proofs.start_table.count_at.Goals as goal

pub returns-clause-value : goal.returns-clause-value
returns-clause-value c = c.count_first.ensures.value (begins_at c.args.start) (λ path passed k. search rules) c.requires
