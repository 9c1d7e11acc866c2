use Rattle.std.proofs.Common.{◌∙◌, ap, drop}
use Rattle.end_index.specs.Runs.{first_in, run}
use Rattle.end_index.proofs.Ordered.{parted, run_found}
use Rattle.end_index.proofs.runs.run_of.Goals as goal

pub count_before-requires : goal.count_before-requires
count_before-requires c = parted c.end_key-key.result c.args.places.now c.requires.order

pub returns-clause-run : goal.returns-clause-run
returns-clause-run c =
    ap (λ n. first_in c.end_key-key.result (drop n c.args.places.now)) c.count_before.ensures
    ∙ run_found c.end_key-key.result c.args.places.now c.requires.order
    ∙ ap (λ k. run k c.args.places.now) c.end_key-key.ensures
