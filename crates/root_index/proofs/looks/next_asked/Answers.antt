use Rattle.std.proofs.Common.{sym, ◌∙◌, ap, arith}
use Rattle.std.specs.Prelude.{option_copied}
use Rattle.partial_path.specs.Sources.{asks_rule}
use Rattle.root_index.proofs.Looked.{skipped, kept, none_kept_from}
use Rattle.root_index.proofs.looks.next_asked.Goals as goal

pub returns-then-asks : goal.returns-then-asks
returns-then-asks c =
    c.loop-i.invariant
    ∙ kept (asks_rule (option_copied c.args.symbol)) c.args.paths.now c.loop-i.i c.at-path.result (omega (arith, c.loop-i-test.true, c.len-i-end.ensures)) c.at-path.ensures.is
    (ap (asks_rule (option_copied c.args.symbol)) (sym c.at-path.ensures.is)
    ∙ sym c.asks.ensures ∙ c.if-asks.true)

pub loop-i-preserved : goal.loop-i-preserved
loop-i-preserved c =
    c.loop-i.invariant
    ∙ skipped (asks_rule (option_copied c.args.symbol)) c.args.paths.now c.loop-i.i c.at-path.result (omega (arith, c.loop-i-test.true, c.len-i-end.ensures))
    (ap (asks_rule (option_copied c.args.symbol)) (sym c.at-path.ensures.is) ∙ sym c.asks.ensures ∙ c.if-asks.false)

pub returns : goal.returns
returns c = c.loop-i.invariant ∙ none_kept_from (asks_rule (option_copied c.args.symbol)) c.args.paths.now c.loop-i.i (omega (arith, c.loop-i-test.false, c.len-i-end.ensures))
