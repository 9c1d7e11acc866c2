-- What is found among the numbers of a bucket.
use Rattle.std.specs.Prelude.{◌≡◌, ◌<◌, ℕ, suc, zero, ◌+◌, ◌-◌, refl, List, [], ◌∷◌, length, drop, slice_index, None}
use Rattle.std.specs.List.{slice_get}
use Rattle.std.specs.Option.{option_or}
use native.Mathlib.Numerals.{unary_clauses}
use Rattle.std.proofs.Common.{arith}
use Rattle.path_store.specs.Documents.{Doc}
use Rattle.path_store.specs.Store.{Kept}
use Rattle.path_store.specs.Inside.{paths_for, found_at}

-- one number and the others
found_next : (doc : Doc) (first : ℕ) (kept : List Kept) (numbers : List ℕ) (i : ℕ) → i < length numbers → found_at doc first kept (drop i numbers) ≡ option_or (paths_for doc (slice_get kept (slice_index numbers i - first))) (found_at doc first kept (drop (suc i) numbers))
found_next doc first kept [] i h = search arith
found_next doc first kept (n ∷ ns) zero h = refl
found_next doc first kept (n ∷ ns) (suc i) h = found_next doc first kept ns i (search arith)

pub found_step : (doc : Doc) (first : ℕ) (kept : List Kept) (numbers : List ℕ) (i : ℕ) → i < length numbers → found_at doc first kept (drop i numbers) ≡ option_or (paths_for doc (slice_get kept (slice_index numbers i - first))) (found_at doc first kept (drop (i + 1) numbers))
found_step doc first kept numbers i h = simp unary_clauses (found_next doc first kept numbers i h)

-- none is left
pub found_none : (doc : Doc) (first : ℕ) (kept : List Kept) (numbers : List ℕ) → found_at doc first kept (drop (length numbers) numbers) ≡ None
found_none doc first kept [] = refl
found_none doc first kept (n ∷ ns) = found_none doc first kept ns
