-- What holds of each two elements of a list.
use Rattle.std.specs.Prelude.{◌≢◌, List, [], ◌∷◌, ⊤}
use Rattle.std.specs.List.{AllByRecursion}

-- each element stands so to each one that follows it
abbrev pub Pairs : {X : Type 0} → (X → X → Type 0) → List X → Type 0
Pairs R [] = ⊤
Pairs R (x ∷ xs) = AllByRecursion (R x) xs × Pairs R xs

-- no two elements are equal
abbrev pub IsApart : {X : Type 0} → List X → Type 0
IsApart [] = ⊤
IsApart {X} (x ∷ xs) = AllByRecursion (λ (y : X). x ≢ y) xs × IsApart xs
