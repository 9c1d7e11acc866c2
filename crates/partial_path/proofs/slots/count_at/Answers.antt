use Rattle.std.proofs.Common.{rules, take}
use Rattle.partial_path.specs.Keys.{texts}
use Rattle.partial_path.specs.Inside.{is_at_slot}
use Rattle.partial_path.proofs.slots.count_at.Goals as goal

pub returns-clause-value : goal.returns-clause-value
returns-clause-value c =
    c.count_first.ensures.value (is_at_slot c.args.start (take c.args.count (texts c.args.symbols.now))) (λ path passed k. search rules) c.requires.parted
