-- The heads of the symbols whose texts make the key of a path of an index; no public clause cites this.
use Rattle.std.specs.Prelude.{ℕ, ◌<◌, List, Option, drop, slice_get, slice_index}
use Rattle.std.specs.Option.{option_map}
use Rattle.partial_path.specs.Heads.{IsHeadAt}

-- the heads of the first six texts, 0 where there are fewer
abbrev pub AreHeads : List ℕ → List (List ℕ) → Type 0
AreHeads heads texts = (i : ℕ) → i < 6 → IsHeadAt (slice_index heads i) (slice_get texts i)

-- the head of what the text has behind its first seven bytes, 0 where there is no text
abbrev pub IsTailAt : ℕ → Option (List ℕ) → Type 0
IsTailAt n text = IsHeadAt n (option_map (λ (t : List ℕ). drop 7 t) text)

-- these of the first six texts
abbrev pub AreTails : List ℕ → List (List ℕ) → Type 0
AreTails tails texts = (i : ℕ) → i < 6 → IsTailAt (slice_index tails i) (slice_get texts i)
