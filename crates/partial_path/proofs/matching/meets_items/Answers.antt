use Rattle.std.proofs.Common.{sym, ◌∙◌, ap, get_or, arith}
use Rattle.std.specs.Option.{is_some}
use Rattle.partial_path.specs.Apply.{match_item}
use Rattle.partial_path.specs.Moved.{moved_symbol}
use Rattle.partial_path.proofs.Asked.{told_more, untold}
use Rattle.partial_path.proofs.matching.meets_items.Goals as goal

-- the symbol isn't met, so not all are
pub returns-then-not-meets_item : goal.returns-then-not-meets_item
returns-then-not-meets_item c =
    sym (c.loop-pat.invariant.met
    ∙ untold c.args.base c.args.asked.now c.reversed-items.result.now c.loop-pat.pat-index c.loop-pat.left c.pat-item.result c.index-items-left.result
    c.loop-pat-test.true c.if-left-eq0.false c.loop-pat.invariant.left
    (c.if-not-meets_item.ensures
    ∙ ap (λ pat. is_some (match_item (moved_symbol c.args.base pat) c.index-items-left.result)) c.pat-item.is
    ∙ ap (λ item. is_some (match_item (moved_symbol c.args.base (get_or c.args.asked.now c.loop-pat.pat-index c.pat-item.result)) item)) c.index-items-left.is))

-- the symbol is met, so the others decide
pub loop-pat-preserved : goal.loop-pat-preserved
loop-pat-preserved c = record {
  left = omega arith;
  met = c.loop-pat.invariant.met
      ∙ told_more c.args.base c.args.asked.now c.reversed-items.result.now c.loop-pat.pat-index c.loop-pat.left c.pat-item.result c.index-items-left.result
      c.loop-pat-test.true c.if-left-eq0.false c.loop-pat.invariant.left
      (c.if-not-meets_item.ensures
      ∙ ap (λ pat. is_some (match_item (moved_symbol c.args.base pat) c.index-items-left.result)) c.pat-item.is
      ∙ ap (λ item. is_some (match_item (moved_symbol c.args.base (get_or c.args.asked.now c.loop-pat.pat-index c.pat-item.result)) item)) c.index-items-left.is);
}
