-- What a set of pairs of a user and a prefix is: a list in a strict order.
use Rattle.std.specs.Prelude.{◌≡◌, List, [], ◌∷◌, ◌++◌, ℕ, Bool, not}
use Rattle.std.specs.Cmp.Lexicographic.{slice_cmp}
use Rattle.std.specs.List.{filter, list_any, AllByRecursion}
use Rattle.std.specs.Ordering.{nat_cmp, ordering_then, is_lt, is_eq, is_gt}
use Rattle.std.specs.declared.cmp.Ordering.{Ordering}
use Rattle.std.specs.declared.cmp.Ordering.TheVariants.{Less}

-- a user and a prefix, each by its bytes
pub record Pair : Type 0 where
  pub user : List ℕ
  pub prefix : List ℕ

-- the pair of that user and prefix
abbrev pub pair : List ℕ → List ℕ → Pair
pair user prefix = record { user = user; prefix = prefix }

-- which of two pairs comes first: by the bytes of the user, then by those of the prefix
abbrev pub pair_cmp : Pair → Pair → Ordering
pair_cmp p q = ordering_then (slice_cmp nat_cmp p.user q.user) (slice_cmp nat_cmp p.prefix q.prefix)

-- each pair comes before all that follow it, so none stands twice
abbrev pub IsRising : List Pair → Type 0
IsRising [] = Unit {0}
IsRising (p ∷ ps) = AllByRecursion (λ q. pair_cmp p q ≡ Less) ps × IsRising ps

-- whether the pair is in the set
unfoldable pub has_pair : Pair → List Pair → Bool
has_pair p ps = list_any (λ q. is_eq (pair_cmp q p)) ps

-- the set with the pair: those before it, the pair, and those after it
unfoldable pub with_pair : Pair → List Pair → List Pair
with_pair p ps = filter (λ q. is_lt (pair_cmp q p)) ps ++ p ∷ filter (λ q. is_gt (pair_cmp q p)) ps

-- the set without the pair
unfoldable pub without_pair : Pair → List Pair → List Pair
without_pair p ps = filter (λ q. not (is_eq (pair_cmp q p))) ps
