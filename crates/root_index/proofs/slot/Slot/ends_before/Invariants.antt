use Rattle.root_index.proofs.slot.Slot.ends_before.Given as goal

abbrev pub invariant-loop-i : goal.invariant-loop-i
invariant-loop-i l = Unit {0}
