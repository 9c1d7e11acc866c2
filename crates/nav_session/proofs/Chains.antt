-- Chains of steps.
use Rattle.std.proofs.Common.{List, [], ◌∷◌, ◌++◌, refl, subst}
use Rattle.nav_session.specs.Chains.{IsChain}

-- each step is one of another kind too
pub chain_by : {S X Y : Type 0} (A B : S → X → Y → S → Type 0) → ((s : S) (x : X) (y : Y) (t : S) → A s x y t → B s x y t)
    → (before : S) (xs : List X) (ys : List Y) (after : S) → IsChain A before xs ys after → IsChain B before xs ys after
chain_by A B f before [] [] after h = h
chain_by A B f before (x ∷ xs) (y ∷ ys) after h = (h.0, f before x y h.0 h.1, chain_by A B f h.0 xs ys after h.2)
chain_by A B f before _ _ after h = absurd h

-- one step more
pub chain_more : {S X Y : Type 0} (Step : S → X → Y → S → Type 0) (before : S) (xs : List X) (ys : List Y) (mid : S) (x : X) (y : Y) (after : S)
    → IsChain Step before xs ys mid → Step mid x y after → IsChain Step before (xs ++ x ∷ []) (ys ++ y ∷ []) after
chain_more {S} Step before [] [] mid x y after h one = (after, subst (λ (s : S). Step s x y after) h one, refl)
chain_more {S} Step before (a ∷ xs) (b ∷ ys) mid x y after h one = (h.0, h.1, chain_more Step h.0 xs ys mid x y after h.2 one)
chain_more {S} Step before _ _ mid x y after h one = absurd h
