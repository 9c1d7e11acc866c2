use Rattle.std.proofs.Common.{sym, ◌∙◌, ap, ◌∷◌, drop, arith}
use Rattle.std.specs.Prelude.{filter}
use Rattle.partial_path.specs.Sources.{is_offered}
use Rattle.partial_path.proofs.Offered.{begin_in_run, none_left, first_left}
use Rattle.partial_path.proofs.offers.next_offer.Goals as goal

pub offered_in_run-requires-clause-begin : goal.offered_in_run-requires-clause-begin
offered_in_run-requires-clause-begin c =
    begin_in_run c.args.at.start c.args.paths.now c.run-low.result.0 c.run-low.result.1 c.max-from.result c.run-low.ensures.bounds.0 c.run-low.ensures.bounds.1
    c.run-low.ensures.run (omega (arith, c.max-from.ensures))

pub offers_after-after-requires-clause-begin : goal.offers_after-after-requires-clause-begin
offers_after-after-requires-clause-begin c =
    begin_in_run c.args.at.start c.args.paths.now c.run-low.result.0 c.run-low.result.1 c.in-Some.place c.run-low.ensures.bounds.0 c.run-low.ensures.bounds.1
    c.run-low.ensures.run (omega (arith, c.max-from.ensures, c.in-Some.ensures.from))

pub returns-in-Some-clause-next : goal.returns-in-Some-clause-next
returns-in-Some-clause-next c =
    first_left c.args.at.start c.args.symbols.now c.args.paths.now c.run-low.result.0 c.run-low.result.1 c.args.at.place c.max-from.result c.in-Some.place
    c.offers_after-after.result.place c.at.result c.run-low.ensures.bounds.0 c.run-low.ensures.bounds.1 c.run-low.ensures.run (λ h. omega (arith, h, c.max-from.ensures))
    (λ h. omega (arith, h, c.max-from.ensures)) (omega (arith, c.max-from.ensures)) c.in-Some.ensures c.offers_after-after.ensures.after c.at.ensures.is
    ∙ ap (λ start. c.at.result ∷ filter (is_offered start c.args.symbols.now) (drop c.offers_after-after.result.place c.args.paths.now)) (sym c.offers_after-after.ensures.start)

pub returns-in-None-clause-next : goal.returns-in-None-clause-next
returns-in-None-clause-next c =
    none_left c.args.at.start c.args.symbols.now c.args.paths.now c.run-low.result.0 c.run-low.result.1 c.args.at.place c.max-from.result
    c.run-low.ensures.bounds.0 c.run-low.ensures.bounds.1 c.run-low.ensures.run (λ h. omega (arith, h, c.max-from.ensures)) (λ h. omega (arith, h, c.max-from.ensures))
    c.in-None.ensures
