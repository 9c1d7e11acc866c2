use Rattle.std.proofs.Common.{sym, subst, List, ◌++◌}
use Rattle.std.specs.List.{prefix_len}
use Rattle.std.specs.List.Sorted.{IsPermutation}
use Rattle.root_index.specs.Roots.{RootPath, AreByRank}
use Rattle.root_index.specs.Blocks.{all_paths, is_up_to}
use Rattle.root_index.proofs.WithFile.{order_with, one_in}
use Rattle.root_index.proofs.with_files.with_slots.Goals as goal

-- the next path is put in
pub loop-slot-preserved : goal.loop-slot-preserved
loop-slot-preserved c =
    let whole : List RootPath = c.args.slots.items ++ all_paths c.args.groups in
    record {
      order = subst AreByRank (sym c.in_ok-more.ensures) (order_with (all_paths c.loop-slot.more) c.in-Some.slot c.loop-slot.invariant.order);
      all = subst (λ (ps : List RootPath). IsPermutation whole (c.next.new.self.rest.items ++ ps)) (sym c.in_ok-more.ensures)
          (one_in whole c.next.new.self.rest.items (all_paths c.loop-slot.more) c.in-Some.slot (prefix_len (is_up_to c.in-Some.slot) (all_paths c.loop-slot.more))
          (subst (λ (ps : List RootPath). IsPermutation whole (ps ++ all_paths c.loop-slot.more)) c.in-Some.ensures.steps.0 c.loop-slot.invariant.all));
    }
