use Rattle.std.proofs.Common.{sym, ◌∙◌, ap, subst, arith, ◌∷◌, [], ◌++◌, List}
use Rattle.std.specs.Prelude.{All}
use Rattle.std.proofs.lemmas.List.Elements.{All-push}
use Rattle.root_index.specs.Roots.{RootPath}
use Rattle.root_index.specs.Blocks.{IsBlock}
use Rattle.root_index.proofs.Sized.{cut_off, half_block}
use Rattle.root_index.proofs.blocks.in_blocks.Goals as goal

-- the last paths go into a block of their own
pub loop-slots-preserved : goal.loop-slots-preserved
loop-slots-preserved c =
    let added = c.in_ok-push.ensures.items ∙ ap (λ (b : List RootPath). c.loop-slots.blocks.items ++ b ∷ []) c.in_ok-of.ensures in
    record {
      paths = cut_off c.loop-slots.slots.items c.split_off.new.self.items c.in_ok-last.last.items c.args.slots.items c.loop-slots.blocks.items c.push.new.self.items _
          c.in_ok-last.ensures.items c.in_ok-last.ensures.tail added c.loop-slots.invariant.paths;
      sizes = subst (All IsBlock) (sym added)
          (All-push IsBlock c.loop-slots.blocks.items c.in_ok-last.last.items c.loop-slots.invariant.sizes
          (half_block c.loop-slots.slots.items c.in_ok-last.last.items c.len-in-loop-slots.result (c.len-in-loop-slots.ensures ∙ c.loop-slots.slots.ok.0)
          (omega (arith, c.loop-slots-test.true, c.len.ensures, c.len-in-loop-slots.ensures)) c.in_ok-last.ensures.tail));
    }
