use Rattle.std.proofs.Common.{refl, sym, ◌∙◌, ap, Some, arith}
use Rattle.std.specs.Prelude.{option_copied}
use Rattle.partial_path.specs.Sources.{asks_rule}
use Rattle.partial_path.proofs.Asking.{left_skipped, left_counted, left_found, left_none}
use Rattle.partial_path.proofs.list_paths.asked.Goals as goal

pub loop-place-init : goal.loop-place-init
loop-place-init c = record { same = refl; passed = refl }

pub loop-place-preserved-then-not-asks : goal.loop-place-preserved-then-not-asks
loop-place-preserved-then-not-asks c =
    left_skipped (asks_rule (option_copied c.args.first)) c.args.run.now c.args.run.now c.loop-place.place c.args.left.now c.loop-place.left c.at-path.result (omega (arith, c.loop-place-test.true, c.len-place-end.ensures))
    (ap (asks_rule (option_copied c.args.first)) (sym c.at-path.ensures.is) ∙ sym c.asks.ensures ∙ c.if-not-asks.true) c.loop-place.invariant

pub returns-then-left-eq0-clause-found : goal.returns-then-left-eq0-clause-found
returns-then-left-eq0-clause-found c =
    ap Some c.at-path.ensures.is ∙ left_found (asks_rule (option_copied c.args.first)) c.args.run.now c.args.run.now c.loop-place.place c.args.left.now c.loop-place.left c.at-path.result (omega (arith, c.loop-place-test.true, c.len-place-end.ensures))
    (ap (asks_rule (option_copied c.args.first)) (sym c.at-path.ensures.is) ∙ sym c.asks.ensures ∙ c.if-not-asks.false) c.if-left-eq0.true c.loop-place.invariant

pub loop-place-preserved : goal.loop-place-preserved
loop-place-preserved c =
    left_counted (asks_rule (option_copied c.args.first)) c.args.run.now c.args.run.now c.loop-place.place c.args.left.now c.loop-place.left c.at-path.result (omega (arith, c.loop-place-test.true, c.len-place-end.ensures))
    (ap (asks_rule (option_copied c.args.first)) (sym c.at-path.ensures.is) ∙ sym c.asks.ensures ∙ c.if-not-asks.false) (omega arith) c.loop-place.invariant

pub returns-clause-found : goal.returns-clause-found
returns-clause-found c = (left_none (asks_rule (option_copied c.args.first)) c.args.run.now c.args.run.now c.loop-place.place c.args.left.now c.loop-place.left (omega (arith, c.loop-place-test.false, c.len-place-end.ensures)) c.loop-place.invariant).0

pub returns-clause-rest : goal.returns-clause-rest
returns-clause-rest c = (left_none (asks_rule (option_copied c.args.first)) c.args.run.now c.args.run.now c.loop-place.place c.args.left.now c.loop-place.left (omega (arith, c.loop-place-test.false, c.len-place-end.ensures)) c.loop-place.invariant).1
