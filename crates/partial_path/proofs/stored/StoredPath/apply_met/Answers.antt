use Rattle.std.proofs.Common.{◌∙◌, ◌++◌, length, drop, map}
use Rattle.stacks_vars.specs.Enter.{stacks_of}
use Rattle.partial_path.specs.Apply.{end_at, fill_item, tail_scopes}
use Rattle.partial_path.specs.Left.{left_by}
use Rattle.partial_path.specs.Moved.{moved_end, moved_node, moved_symbol_out}
use Rattle.partial_path.proofs.Leaving.{met_applies}
use Rattle.partial_path.proofs.stored.StoredPath.apply_met.Goals as goal

-- the stacks are what the rule makes of those that meet it, and it ends with them
pub returns : goal.returns
returns c =
    let asked = c.asked.ensures.value in
    let fixed = c.fixed.ensures.value in
    let made = c.made.ensures.value in
    let scopes = c.scopes.ensures.value in
    let tail = c.tail.ensures.value in
    c.ended.ensures
    ∙ (λ i. end_at (moved_end c.args.base (c.end.ensures.value i)) (stacks_of (c.in_ok-fill.ensures.symbols i) (c.in_ok-fill.ensures.scopes i)))
    ∙ (λ i. end_at (moved_end c.args.base c.args.self.now.end)
    (stacks_of (map (fill_item (left_by (asked i) (fixed i) c.args.at.now.stacks)) (map (moved_symbol_out c.args.base) (made i)) ++ drop (length (asked i)) c.args.at.now.stacks.symbols)
    (map (moved_node c.args.base) (scopes i) ++ tail_scopes (left_by (asked i) (fixed i) c.args.at.now.stacks) (tail i))))
    ∙ met_applies c.args.base c.args.self.now c.args.at.now c.requires.met
