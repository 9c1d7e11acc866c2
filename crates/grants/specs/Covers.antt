-- Who may see which path.
use Rattle.std.specs.Prelude.{List, ◌++◌, ℕ, Bool, ◌&&◌, ◌||◌, codes, length, nat_lt, nat_eq}
use Rattle.std.specs.List.{filter, list_any, list_all, starts_with}
use Rattle.std.specs.Str.{bytes_eq}
use Rattle.grants.specs.Pairs.{Pair, with_pair, without_pair}

-- the grants and the denies, two sets of pairs
pub record Rules : Type 0 where
  pub granted : List Pair
  pub denied : List Pair

-- the same rules with or without one grant, with or without one deny
abbrev pub with_grant : Pair → Rules → Rules
with_grant p rules = record rules { granted = with_pair p rules.granted }

abbrev pub without_grant : Pair → Rules → Rules
without_grant p rules = record rules { granted = without_pair p rules.granted }

abbrev pub with_deny : Pair → Rules → Rules
with_deny p rules = record rules { denied = with_pair p rules.denied }

abbrev pub without_deny : Pair → Rules → Rules
without_deny p rules = record rules { denied = without_pair p rules.denied }

-- a prefix reaches the path equal to it and every path that begins with it and `/`; the empty one reaches all
unfoldable pub reaches : List ℕ → List ℕ → Bool
reaches prefix path =
    bytes_eq prefix (codes "") || bytes_eq prefix path
    || starts_with nat_eq path (prefix ++ codes "/")

-- whether the pair is that user's and its prefix reaches the path
unfoldable pub speaks_of : List ℕ → List ℕ → Pair → Bool
speaks_of user path p = bytes_eq p.user user && reaches p.prefix path

-- whether the first pair's prefix is the longer one
abbrev pub is_longer : Pair → Pair → Bool
is_longer p q = nat_lt (length q.prefix) (length p.prefix)

-- whether a grant to the user reaches the path with a longer prefix than every deny that reaches it
unfoldable pub is_granted : Rules → List ℕ → List ℕ → Bool
is_granted rules user path =
    let denies = filter (speaks_of user path) rules.denied in
    list_any (λ grant. list_all (is_longer grant) denies)
    (filter (speaks_of user path) rules.granted)

-- whether the user may see a file at the path; the user `operator` sees every file
unfoldable pub covers : Rules → List ℕ → List ℕ → Bool
covers rules user path = bytes_eq user (codes "operator") || is_granted rules user path
