-- What is left when the oldest pair is dropped.
use Rattle.std.specs.Prelude.{◌≡◌, ◌<◌, ℕ, nat_lt, nat_le, ◌+◌, true, false, refl, List, [], ◌∷◌, ◌++◌, length, drop}
use Rattle.std.proofs.Common.{arith}
use Rattle.std.proofs.lemmas.Bool.Decides.{nat_tests}
use Rattle.path_store.specs.Store.{Kept, cost_of, cost_of_pair, swept}

-- too much: the same is left without the oldest
pub swept_step : (limit : ℕ) (ks : List Kept) → nat_lt limit (cost_of ks) ≡ true → swept limit (drop 1 ks) ≡ swept limit ks
swept_step limit [] h = refl
swept_step limit (k ∷ ks) h = let e : nat_le (cost_of (k ∷ ks)) limit ≡ false = grind (arith, nat_tests) in rw e refl

-- not too much: all is left
pub swept_done : (limit : ℕ) (ks : List Kept) → nat_lt limit (cost_of ks) ≡ false → swept limit ks ≡ ks
swept_done limit [] h = refl
swept_done limit (k ∷ ks) h = let e : nat_le (cost_of (k ∷ ks)) limit ≡ true = grind (arith, nat_tests) in rw e refl

-- too much: there is an oldest pair
pub swept_shorter : (limit : ℕ) (ks : List Kept) → nat_lt limit (cost_of ks) ≡ true → length (drop 1 ks) < length ks
swept_shorter limit [] h = grind (arith, nat_tests)
swept_shorter limit (k ∷ ks) h = search arith

-- one pair more
pub cost_of_push : (ks : List Kept) (k : Kept) → cost_of (ks ++ k ∷ []) ≡ cost_of ks + cost_of_pair k
cost_of_push [] k = search arith
cost_of_push (x ∷ ks) k = let ih = cost_of_push ks k in search (arith, ih)
