use Rattle.std.proofs.Common.{sym, ◌∙◌}
use Rattle.partial_path.specs.Sources.{begins_in}
use Rattle.partial_path.proofs.Asking.{none_kept}
use Rattle.partial_path.proofs.list_paths.run_in.Goals as goal

pub returns-in-None : goal.returns-in-None
returns-in-None c = c.between.ensures.value ∙ sym (none_kept (begins_in c.args.number c.args.start) (λ r. c.in-None.ensures r.start) c.args.file.now.rules)
