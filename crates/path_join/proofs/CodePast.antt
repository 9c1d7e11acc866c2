-- What is asked for past the scopes that are there, by a comparison as far as both go.
use Rattle.std.proofs.Common.{◌≡◌, refl, List, [], ◌∷◌, ◌++◌, length, drop, Bool, true, false, ◌&&◌, Option, Some, None, cond}
use Rattle.std.specs.List.{list_all, zip}
use Rattle.std.specs.Option.{option_and_then}
use Rattle.stacks_vars.specs.declared.scopes.NodeAt.{NodeAt}
use Rattle.stacks_vars.specs.Same.{node_eq}
use Rattle.path_join.specs.Joining.{past}
use Rattle.path_join.specs.Tables.{agrees}

-- the first pair agrees and the others do, or not
none-at : (b : Bool) (rest : Bool) (there : Option (List NodeAt)) → (b && rest) ≡ false → (rest ≡ false → there ≡ None) → cond b there None ≡ None
none-at true rest there h none = none h
none-at false rest there h none = refl

some-at : (b : Bool) (rest : Bool) (there more : Option (List NodeAt)) → (b && rest) ≡ true → (rest ≡ true → there ≡ more) → cond b there None ≡ more
some-at true rest there more h some = some h
some-at false rest there more h some = cc

-- where some pair differs nothing is past the scopes that are there
pub past-none : (fixed there : List NodeAt) → list_all agrees (zip fixed there) ≡ false → past fixed there ≡ None
past-none [] there h = cc
past-none (f ∷ fixed) [] h = cc
past-none (f ∷ fixed) (s ∷ there) h =
    none-at (node_eq f s) (list_all agrees (zip fixed there)) (past fixed there) h (past-none fixed there)

-- else what is past the shared ones
pub past-some : (fixed there : List NodeAt) → list_all agrees (zip fixed there) ≡ true → past fixed there ≡ Some (drop (length there) fixed)
past-some [] [] h = refl
past-some [] (s ∷ there) h = refl
past-some (f ∷ fixed) [] h = refl
past-some (f ∷ fixed) (s ∷ there) h =
    some-at (node_eq f s) (list_all agrees (zip fixed there)) (past fixed there) (Some (drop (length there) fixed)) h (past-some fixed there)

-- past scopes that are there in two parts
past-append-at : (b : Bool) (first then : Option (List NodeAt)) (g : List NodeAt → Option (List NodeAt)) → first ≡ option_and_then g then → cond b first None ≡ option_and_then g (cond b then None)
past-append-at true first then g e = e
past-append-at false first then g e = refl

pub past-append : (fixed there more : List NodeAt) → past fixed (there ++ more) ≡ option_and_then (λ beyond. past beyond more) (past fixed there)
past-append [] [] more = refl
past-append [] (s ∷ there) [] = refl
past-append [] (s ∷ there) (m ∷ more) = refl
past-append (f ∷ fixed) [] more = refl
past-append (f ∷ fixed) (s ∷ there) more =
    past-append-at (node_eq f s) (past fixed (there ++ more)) (past fixed there) (λ beyond. past beyond more) (past-append fixed there more)
