use Rattle.std.proofs.Common.{◌≡◌, drop}
use Rattle.partial_path.specs.Marks.{made_texts, with_texts}
use Rattle.partial_path.proofs.marks.mark_made.Given as goal

-- the symbols left make the mark of what is there so far
abbrev pub invariant-loop-i : goal.invariant-loop-i
invariant-loop-i l = with_texts 0 (made_texts l.made) ≡ with_texts l.mark (made_texts (drop l.i l.made))
