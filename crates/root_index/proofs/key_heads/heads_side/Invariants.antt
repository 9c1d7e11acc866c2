use Rattle.std.proofs.Common.{◌≡◌, ◌≤◌, ℕ, List, length, drop, take}
use Rattle.partial_path.specs.Keys.{key_cmp, texts}
use Rattle.root_index.specs.Heads.{AreHeads, AreTails}
use Rattle.root_index.proofs.key_heads.heads_side.Given as goal

-- the texts left decide
abbrev pub invariant-loop-i : goal.invariant-loop-i
invariant-loop-i l =
    (asked : List (List ℕ)) → AreHeads l.heads asked → AreTails l.tails asked → length asked ≤ 6
    → key_cmp asked (take l.count (texts l.symbols)) ≡ key_cmp (drop l.i asked) (drop l.i (take l.count (texts l.symbols)))
