-- What holds of the parts of a store.
use Rattle.std.specs.Prelude.{◌≡◌, ℕ, ◌+◌, List, length, Option, None, Some, cond, [], ◌∷◌, ◌-◌}
use Rattle.std.specs.List.{slice_get}
use Rattle.std.specs.Option.{option_or}
use Rattle.partial_path.specs.PathSets.{FileRules}
use Rattle.path_store.specs.declared.buckets.Buckets.{Buckets}
use Rattle.path_store.specs.Buckets.{in_bucket, numbers_of}
use Rattle.path_store.specs.Documents.{Doc, same_doc}
use Rattle.path_store.specs.Store.{Kept, AreDistinct, cost_of}

-- the parts of a store: the pairs with the number of the oldest and that of the next one to come, what they
-- cost, and the buckets. Each pair stands in the bucket of its document's digest and in no other: a bucket
-- has the numbers of the pairs of its digest, in their order, and nothing else
pub record IsStore (kept : List Kept) (first next total : ℕ) (buckets : Buckets) : Type 0 where
  pub filed : (digest : List ℕ) → in_bucket buckets digest ≡ numbers_of digest first kept
  pub counted : next ≡ first + length kept
  pub summed : total ≡ cost_of kept
  pub distinct : AreDistinct kept

-- the paths of the pair, where it is there and is kept for the document
abbrev pub paths_for : Doc → Option Kept → Option FileRules
paths_for doc None = None
paths_for doc (Some k) = cond (same_doc k.doc doc) (Some k.paths) None

-- the paths of the first pair of those numbers that is kept for the document, where the first pair of all
-- has that number
abbrev pub found_at : Doc → ℕ → List Kept → List ℕ → Option FileRules
found_at doc first kept [] = None
found_at doc first kept (n ∷ ns) = option_or (paths_for doc (slice_get kept (n - first))) (found_at doc first kept ns)
