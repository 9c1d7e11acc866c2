-- When a path shadows another.
use Rattle.std.specs.Prelude.{List, [], ◌∷◌, Bool, false, not, ◌&&◌, nat_eq, nat_lt, if◌then◌else◌}
use Rattle.std.specs.List.{list_any, filter}
use Rattle.shadowing.specs.declared.paths.EdgeStep.{EdgeStep}

-- whether two steps are equal: the same edge with the same precedence
abbrev pub same_step : EdgeStep → EdgeStep → Bool
same_step a b =
    nat_eq a.edge.file b.edge.file && nat_eq a.edge.edge b.edge.edge
    && nat_eq a.precedence b.precedence

-- whether the first path shadows the second: at the first place at which they differ both have a step,
-- and the first one's has the higher precedence
abbrev pub shadows : List EdgeStep → List EdgeStep → Bool
shadows [] path = false
shadows (x ∷ xs) [] = false
shadows (x ∷ xs) (y ∷ ys) =
    if same_step x y then shadows xs ys else nat_lt y.precedence x.precedence

-- whether one of the paths shadows this one
abbrev pub is_shadowed : List (List EdgeStep) → List EdgeStep → Bool
is_shadowed paths path = list_any (λ (other : List EdgeStep). shadows other path) paths

-- the paths that none of them shadows, as they stand
abbrev pub unshadowed : List (List EdgeStep) → List (List EdgeStep)
unshadowed paths = filter (λ (path : List EdgeStep). not (is_shadowed paths path)) paths
