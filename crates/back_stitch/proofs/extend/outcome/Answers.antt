-- Behind what is known a path is joined, and behind nothing it is the first.
use Rattle.std.proofs.Common.{ap}
use Rattle.std.specs.Prelude.{option_copied}
use Rattle.std.proofs.lemmas.Result.{IfOk-weaker}
use Rattle.back_stitch.proofs.Longer.{opened, outcome_behind, outcome_first}
use Rattle.back_stitch.proofs.extend.outcome.Goals as goal

pub join_left-requires-clause-after : goal.join_left-requires-clause-after
join_left-requires-clause-after g c = (opened (option_copied c.args.behind) c.in-Some.behind.now (ap option_copied c.in-Some.is) c.requires.open).after

pub join_left-requires-clause-short : goal.join_left-requires-clause-short
join_left-requires-clause-short g c = (opened (option_copied c.args.behind) c.in-Some.behind.now (ap option_copied c.in-Some.is) c.requires.open).short

pub join_left-requires-clause-low : goal.join_left-requires-clause-low
join_left-requires-clause-low g c = (opened (option_copied c.args.behind) c.in-Some.behind.now (ap option_copied c.in-Some.is) c.requires.open).low

pub returns-in-Some : goal.returns-in-Some
returns-in-Some g c =
    IfOk-weaker c.join_left.result _ _
    (λ found h. outcome_behind (g.P.BackSource.files c.args.source.now) (c.args.file, c.args.path.now) (option_copied c.args.behind) c.in-Some.behind.now found (ap option_copied c.in-Some.is) h)
    c.join_left.ensures

pub returns-in-None : goal.returns-in-None
returns-in-None g c =
    IfOk-weaker c.first_of.result _ _
    (λ found h. outcome_first (g.P.BackSource.files c.args.source.now) (c.args.file, c.args.path.now) (option_copied c.args.behind) found (ap option_copied c.in-None.is) h)
    c.first_of.ensures
