-- Lemmas on the pieces of a text.
use Rattle.std.proofs.Common.{◌≡◌, ℕ, ◌<◌, Bool, true, false, cond, List, [], ◌∷◌, length, slice_index, take, zero, suc, arith, ◌+◌, refl}
use Rattle.std.specs.List.{prefix_len}
use Rattle.std.specs.Str.{IsAscii}
use Rattle.std.proofs.lemmas.Str.{IsUtf8-from_ascii}
use Rattle.std.proofs.lemmas.Bool.Decides.{nat_tests}
use Rattle.std.proofs.Math.Numerals.{one-add}
use Rattle.py_subset.specs.Pieces.{is_in_name}
use Rattle.std.proofs.lemmas.List.Sums.{prefix_len-le-length}

-- A run is not empty where the first byte passes.
pub run-some : (p : ℕ → Bool) (xs : List ℕ) → 0 < length xs → p (slice_index xs 0) ≡ true → 0 < prefix_len p xs
run-some p [] h e = omega arith
run-some p (x ∷ xs) h e = rw e (omega arith)

-- A byte that isn't 0 is there.
pub index-some : (xs : List ℕ) (i : ℕ) → 0 < slice_index xs i → i < length xs
index-some [] i h = omega arith
index-some (x ∷ xs) zero h = omega arith
index-some (x ∷ xs) (suc i) h = omega (arith, index-some xs i h)

in_name-small : (x : ℕ) → is_in_name x ≡ true → x < 128
in_name-small x e = grind (arith, nat_tests)

ascii_by : (b : Bool) (x : ℕ) (xs : List ℕ) → is_in_name x ≡ b → IsAscii (take (prefix_len is_in_name xs) xs) → IsAscii (take (cond b (1 + prefix_len is_in_name xs) 0) (x ∷ xs))
ascii_by false x xs e rest i = omega arith
ascii_by true x xs e rest zero = rw one-add (in_name-small x e)
ascii_by true x xs e rest (suc i) = rw one-add (rest i)

-- A run of bytes that are in a name is ASCII.
pub run-ascii : (xs : List ℕ) → IsAscii (take (prefix_len is_in_name xs) xs)
run-ascii [] i = omega arith
run-ascii (x ∷ xs) i = ascii_by (is_in_name x) x xs refl (run-ascii xs) i

pub ruleset texts = (IsUtf8-from_ascii)

pub ruleset pieces = (run-ascii, run-some, index-some, prefix_len-le-length)
