use Rattle.std.proofs.Common.{ap, ◌∙◌, drop}
use Rattle.std.proofs.lemmas.List.{take_rest, drop_min}
use Rattle.path_join.proofs.known.rest.Goals as goal

pub returns : goal.returns
returns g c =
    take_rest c.args.items.now c.min-both.result ∙ ap (λ n. drop n c.args.items.now) c.min-both.ensures ∙ drop_min c.args.count c.args.items.now
