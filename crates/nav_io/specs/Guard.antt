-- How a request of the Hypertext Transfer Protocol begins, as a browser sends it.
use Rattle.std.specs.Prelude.{ℕ, List, [], ◌∷◌, Bool, nat_eq, codes}
use Rattle.std.specs.List.{list_any, starts_with}

-- the methods, each as far as it tells a request from a line that this server answers
abbrev pub methods : List (List ℕ)
methods =
    codes "GET " ∷ codes "POST" ∷ codes "PUT " ∷ codes "HEAD" ∷ codes "OPTIONS" ∷ codes "DELETE"
    ∷ codes "PATCH" ∷ codes "CONNECT" ∷ codes "TRACE" ∷ []

-- whether the bytes begin with one of them; whether one of them begins with the bytes
abbrev pub begins_request : List ℕ → Bool
begins_request bytes = list_any (λ method. starts_with nat_eq bytes method) methods

abbrev pub may_begin_request : List ℕ → Bool
may_begin_request bytes = list_any (λ method. starts_with nat_eq method bytes) methods
