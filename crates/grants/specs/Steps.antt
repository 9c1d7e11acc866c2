-- What the rules say of one length of a path; no public clause cites this.
use Rattle.std.specs.Prelude.{List, ℕ, Bool, true, false, ◌||◌, ◌==◌, nat_le, length, take, slice_index, if◌then◌else◌, Option, Some, None}
use Rattle.grants.specs.Pairs.{pair, has_pair}
use Rattle.grants.specs.Covers.{Rules}

-- whether a prefix of that length reaches the path: the empty one, the whole path, or one before a `/`
unfoldable pub is_cut : List ℕ → ℕ → Bool
is_cut path end = (end == 0) || nat_le (length path) end || (slice_index path end == 47)

-- what a rule of the user for so much of the path says: whether it grants, where there is one
unfoldable pub verdict_at : Rules → List ℕ → List ℕ → ℕ → Option Bool
verdict_at rules user path end =
    if is_cut path end then
    (if has_pair (pair user (take end path)) rules.denied then Some false else
    (if has_pair (pair user (take end path)) rules.granted then Some true else None)) else None
