use Rattle.std.proofs.Common.{sym, ◌∙◌, subst, ap, length, arith}
use Rattle.std.specs.Prelude.{All}
use Rattle.std.proofs.lemmas.List.{length-drop}
use Rattle.std.proofs.lemmas.List.Elements.{All-drop}
use Rattle.root_index.specs.Blocks.{IsBlock, all_paths}
use Rattle.root_index.proofs.Grouped.{in_two, some_paths}
use Rattle.root_index.proofs.blocks.Blocks.cut.Goals as goal

pub returns-clause-paths : goal.returns-clause-paths
returns-clause-paths c =
    in_two c.self.inside.blocks.items c.split_off.new.self.items c.in_ok-last.last.items c.args.at c.in_ok-last.ensures.items c.in_ok-last.ensures.tail
    ∙ ap all_paths c.self.view_is

-- one block is left
pub returns-clause-some : goal.returns-clause-some
returns-clause-some c =
    let long = length-drop c.args.at c.self.inside.blocks.items in
    let last = ap length c.in_ok-last.ensures.tail in
    let same = ap length c.self.view_is in
    let some = c.requires in
    some_paths c.in_ok-last.last.items (subst (All IsBlock) (sym c.in_ok-last.ensures.tail) (All-drop IsBlock c.args.at c.self.inside.blocks.items c.self.invariant))
    (omega (arith, long, last, same, some))
