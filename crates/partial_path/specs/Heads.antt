-- The heads of the first symbols that rules ask for, by which most rules are told apart. No public clause cites this.
use Rattle.std.specs.Prelude.{◌≡◌, ℕ, ◌≤◌, ◌<◌, List, length, Option, Some, None, slice_get, slice_index, slice_index_or}
use Rattle.stacks_vars.specs.Head.{IsHead}
use Rattle.partial_path.specs.Rules.{Rule}
use Rattle.partial_path.specs.Keys.{key}

-- the head of the text, 0 where there is none
abbrev pub IsHeadAt : ℕ → Option (List ℕ) → Type 0
IsHeadAt n None = n ≡ 0
IsHeadAt n (Some text) = IsHead n text

-- the first numbers, so many, are the heads of the first symbols of as many rules, 0 where a rule asks for none
abbrev pub AreHeadsBelow : ℕ → List ℕ → List Rule → Type 0
AreHeadsBelow n heads rules = (k : ℕ) (d : Rule) → k < n → IsHeadAt (slice_index heads k) (slice_get (key (slice_index_or rules k d)) 0)

-- where there are as many numbers as rules, they are the heads of these
abbrev pub AreFirstHeads : List ℕ → List Rule → Type 0
AreFirstHeads heads rules = length heads ≡ length rules → AreHeadsBelow (length rules) heads rules

-- the numbers from one place on and before another rise
abbrev pub Rise : List ℕ → ℕ → ℕ → Type 0
Rise heads low high = (i j : ℕ) → low ≤ i → i ≤ j → j < high → slice_index heads i ≤ slice_index heads j

-- those from one place on and before another are less than that one, or no less
abbrev pub AreLess : List ℕ → ℕ → ℕ → ℕ → Type 0
AreLess heads low high wanted = (k : ℕ) → low ≤ k → k < high → slice_index heads k < wanted

abbrev pub AreNoLess : List ℕ → ℕ → ℕ → ℕ → Type 0
AreNoLess heads low high wanted = (k : ℕ) → low ≤ k → k < high → wanted ≤ slice_index heads k
