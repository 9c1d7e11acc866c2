-- A chain of steps, as the replies to what is asked one after the other are.
use Rattle.std.specs.Prelude.{◌≡◌, List, [], ◌∷◌}

-- for each of the first list, and with it the one at the same place of the second, a step leads on from where the one
-- before it led
abbrev pub IsChain : {S X Y : Type 0} → (S → X → Y → S → Type 0) → S → List X → List Y → S → Type 0
IsChain {S} Step before [] [] after = after ≡ before
IsChain {S} Step before (x ∷ xs) (y ∷ ys) after = (next : S) × Step before x y next × IsChain Step next xs ys after
IsChain {S} Step before _ _ after = ⊥
