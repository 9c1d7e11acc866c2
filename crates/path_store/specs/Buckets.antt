-- Where the pairs of a store are found: the numbers of those with one digest.
use Rattle.std.specs.Prelude.{◌≡◌, ℕ, cond, ◌+◌, List, [], ◌∷◌}
use Rattle.std.specs.HashMap.{get}
use Rattle.std.specs.Option.{option_map_or}
use Rattle.std.specs.Str.{bytes_eq}
use Rattle.path_store.specs.declared.buckets.Buckets.{Buckets}
use Rattle.path_store.specs.Documents.{digest_of}
use Rattle.path_store.specs.Store.{Kept}

-- the numbers of the pairs whose document has the digest, where the first pair has that number and each
-- next one the next
abbrev pub numbers_of : List ℕ → ℕ → List Kept → List ℕ
numbers_of digest first [] = []
numbers_of digest first (k ∷ ks) =
    let rest = numbers_of digest (first + 1) ks in
    cond (bytes_eq (digest_of k.doc) digest) (first ∷ rest) rest

-- the numbers in the bucket of a digest
abbrev pub in_bucket : Buckets → List ℕ → List ℕ
in_bucket buckets digest = option_map_or (λ v. v.items) (get bytes_eq buckets.numbers digest) []

-- the bucket of the digest has these numbers, and each other one has what it had
abbrev pub SetsBucket : Buckets → Buckets → List ℕ → List ℕ → Type 0
SetsBucket old new digest numbers = (d : List ℕ) → in_bucket new d ≡ cond (bytes_eq digest d) numbers (in_bucket old d)

-- each bucket has what it had
abbrev pub AreSame : Buckets → Buckets → Type 0
AreSame old new = (d : List ℕ) → in_bucket new d ≡ in_bucket old d
