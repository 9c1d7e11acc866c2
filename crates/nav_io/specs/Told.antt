-- What is told of things that are given out and come back.
use Rattle.std.specs.Prelude.{ℕ, ◌+◌, ◌≤◌, List, ◌++◌, length, Option, IfSome}
use Rattle.std.specs.Option.{option_map}

-- the things told, and then more
abbrev pub append_told : {X : Type 0} → Option (List X) → List X → Option (List X)
append_told told more = option_map (λ xs. xs ++ more) told

-- Of the things given out at least n haven't come back, where both lists are told.
abbrev pub HasOut : {X : Type 0} → Option (List X) → Option (List X) → ℕ → Type 0
HasOut gave back n =
    IfSome gave (λ given. IfSome back (λ returned. length returned + n ≤ length given))
