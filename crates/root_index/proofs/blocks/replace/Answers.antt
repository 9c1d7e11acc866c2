use Rattle.std.proofs.Common.{sym, ◌∙◌, ap, ◌+◌, ◌++◌, drop, take}
use Rattle.list_facts.proofs.Halving.{set-parts}
use Rattle.root_index.proofs.InBlocks.{one_is}
use Rattle.root_index.proofs.blocks.replace.Goals as goal

-- one block stands in place of the other
pub returns-then-len-eq1 : goal.returns-then-len-eq1
returns-then-len-eq1 c =
    set-parts c.args.blocks.now.items c.args.i c.remove.result c.requires
    ∙ ap (λ bs. take c.args.i c.args.blocks.now.items ++ (bs ++ drop (c.args.i + 1) c.args.blocks.now.items))
    (one_is c.args.parts.items c.remove.result (sym c.args.parts.ok.0 ∙ sym c.len.ensures ∙ c.if-len-eq1.true) c.remove.ensures.value)
