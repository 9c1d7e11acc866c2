use Rattle.std.proofs.Common.{◌≡◌, ◌≤◌, ℕ, List, length, drop}
use Rattle.partial_path.specs.Keys.{key_cmp}
use Rattle.root_index.specs.Heads.{AreHeads}
use Rattle.root_index.proofs.key_heads.heads_order.Given as goal

-- the texts left decide
abbrev pub invariant-loop-i : goal.invariant-loop-i
invariant-loop-i l =
    (x y : List (List ℕ)) → AreHeads l.a x → AreHeads l.b y → length x ≤ 6 → length y ≤ 6 → key_cmp x y ≡ key_cmp (drop l.i x) (drop l.i y)
