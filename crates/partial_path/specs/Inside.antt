-- What a `FilePaths` and a `FileList` keep of their parts, and how a rule is found. No public clause cites this.
use Rattle.std.specs.Prelude.{◌≡◌, ℕ, ◌+◌, ◌≤◌, ◌<◌, ◌^◌, List, length, take, All, Bool, true, false, Option, Some, None, MatchOption, slice_index_or}
use Rattle.std.specs.List.{AllWithin, HoldsAt}
use Rattle.std.specs.Str.{bytes_eq}
use Rattle.std.specs.Ordering.{is_lt, is_eq}
use Rattle.std.specs.declared.cmp.Ordering.{Ordering}
use Rattle.partial_path.specs.declared.config.Spot.TheVariants as spot
use Rattle.stacks_vars.specs.declared.items.SymbolItem.{SymbolItem}
use Rattle.stacks_vars.specs.declared.patterns.SymPat.{SymPat}
use Rattle.partial_path.specs.declared.rule.Start.{Start}
use Rattle.partial_path.specs.declared.rule.Start.TheVariants.{Before, After}
use Rattle.partial_path.specs.Spots.{node_at}
use Rattle.partial_path.specs.Rules.{Rule}
use Rattle.partial_path.specs.PathSets.{FileRules, AreFileRules}
use Rattle.partial_path.specs.Keys.{IsByKey, asked_texts, key_size, slot_of, slot_cmp}
use Rattle.partial_path.specs.Heads.{AreFirstHeads}
use Rattle.partial_path.specs.Tables.{IsTable}
use Rattle.partial_path.specs.Sources.{IsSourceFile, is_offered}

-- the rules are the graph's path set, in the order of their starts and keys, the weight is its weight, the first
-- numbers, where there are as many, are the heads of the rules' first symbols, and the others a table of their starts
pub record IsStored (file : FileRules) (numbers : List ℕ) (before : List ℕ) (nodes : ℕ) : Type 0 where
  pub sets : AreFileRules file
  pub order : IsByKey file.rules
  pub heads : AreFirstHeads numbers file.rules
  pub table : IsTable before nodes file.rules

-- path sets of files, few enough for their numbers
pub record AreStored (files : List FileRules) : Type 0 where
  pub sets : All IsSourceFile files
  pub few : length files ≤ 2 ^ 32

-- the key of a rule that asks for these symbols
abbrev pub asked_key : List SymPat → List (List ℕ)
asked_key asked = asked_texts (take key_size asked)

-- how a rule stands to a start and a key: before it, there, or behind it
abbrev pub slot_side : Start → List (List ℕ) → Rule → Ordering
slot_side start asked rule = slot_cmp (slot_of rule) (start, asked)

-- whether the rule stands before that start and key
abbrev pub is_before_slot : Start → List (List ℕ) → Rule → Bool
is_before_slot start asked rule = is_lt (slot_side start asked rule)

-- whether it stands there
abbrev pub is_at_slot : Start → List (List ℕ) → Rule → Bool
is_at_slot start asked rule = is_eq (slot_side start asked rule)

-- the number of the file that the start is in, 0 for the root
abbrev pub file_of : Start → ℕ
file_of (Before node) = node.file
file_of (After spot.Root) = 0
file_of (After (spot.At node)) = node.file

-- the start by the numbers of that file alone
abbrev pub start_inside : Start → Start
start_inside (Before node) = Before (node_at 0 node.node)
start_inside (After spot.Root) = After spot.Root
start_inside (After (spot.At node)) = After (spot.At (node_at 0 node.node))

-- none of the rules from one place on and before another is offered
abbrev pub NoneOffered : Start → List SymbolItem → List Rule → ℕ → ℕ → Type 0
NoneOffered start symbols rules low high = AllWithin (λ rule. is_offered start symbols rule ≡ false) rules low high

-- the first of them that is offered stands at that place
pub record IsFirstOffered (start : Start) (symbols : List SymbolItem) (rules : List Rule) (low high place : ℕ) : Type 0 where
  pub from : low ≤ place
  pub within : place < high
  pub none : NoneOffered start symbols rules low place
  pub is : HoldsAt (λ rule. is_offered start symbols rule ≡ true) rules place

-- the place of the first of them that is offered, None where none is
abbrev pub IsNextOffer : Start → List SymbolItem → List Rule → ℕ → ℕ → Option ℕ → Type 0
IsNextOffer start symbols rules low high next =
    MatchOption next (NoneOffered start symbols rules low high) (λ place. IsFirstOffered start symbols rules low high place)

-- a look-up that found the rule at `place`, of a run of rules before `high`, may go on at `next`: no rule between these
-- is offered where that one is
pub record IsAfter (start : Start) (rules : List Rule) (place high next : ℕ) : Type 0 where
  pub least : place + 1 ≤ next
  pub most : next ≤ length rules
  pub none : (symbols : List SymbolItem) → HoldsAt (λ rule. is_offered start symbols rule ≡ true) rules place
      → (k : ℕ) (d : Rule) → place < k → k < next → k < high → is_offered start symbols (slice_index_or rules k d) ≡ false

-- the first of the rules that stands at that start and key has that place
pub record IsFirstAtSlot (start : Start) (asked : List (List ℕ)) (rules : List Rule) (place : ℕ) : Type 0 where
  pub within : place < length rules
  pub before : AllWithin (λ rule. is_before_slot start asked rule ≡ true) rules 0 place
  pub is : HoldsAt (λ rule. is_at_slot start asked rule ≡ true) rules place

-- whether a text that is asked for, or none, is met by that text, or by none
abbrev pub meets_text : Option (List ℕ) → Option (List ℕ) → Bool
meets_text None symbol = true
meets_text (Some asked) None = false
meets_text (Some asked) (Some symbol) = bytes_eq asked symbol
