-- The rules that a backward search keeps, each for the stored paths of a back list, and what it finds of them. No public
-- clause cites this.
use Rattle.std.specs.Prelude.{◌≡◌, ◌≤◌, ◌+◌, ℕ, List, [], ◌∷◌, ◌++◌, map, filter, length, Bool, true, ◌&&◌, Option, Some, None, MatchOption, if◌then◌else◌, IsTrue, ⊤}
use Rattle.std.specs.List.{flat_map}
use Rattle.list_facts.specs.Members.{IsIn}
use Rattle.list_facts.specs.Apart.{IsApart}
use Rattle.graph_nodes.specs.Whole.{is_definition_of}
use Rattle.stacks_vars.specs.declared.scopes.NodeAt.{NodeAt}
use Rattle.stacks_vars.specs.declared.patterns.SymPat.{SymPat}
use Rattle.partial_path.specs.declared.config.Config.{Config}
use Rattle.partial_path.specs.declared.config.Spot.{Spot}
use Rattle.partial_path.specs.declared.config.Spot.TheVariants.{At}
use Rattle.partial_path.specs.declared.rule.Start.{Start}
use Rattle.partial_path.specs.declared.rule.Start.TheVariants.{Before, After}
use Rattle.partial_path.specs.Rules.{Rule}
use Rattle.partial_path.specs.Apply.{apply}
use Rattle.partial_path.specs.PathSets.{FileRules}
use Rattle.partial_path.specs.Sources.{graphs_of}
use Rattle.back_stitch.specs.Lists.{most_lists, most_edges, most_depth}
use Rattle.back_stitch.specs.Sources.{AreEnds}
use Rattle.back_stitch.specs.Joined.{IsJoined, is_after, is_kept, is_none}
use Rattle.back_stitch.specs.Paths.{IsBackPath}

-- the stored paths are a back list of the node
abbrev pub IsBack : List FileRules → NodeAt → List (ℕ × Rule) → Type 0
IsBack files d paths = (start : Start) × IsBackPath files d start paths

-- the rule does what these stored paths do, which lead to the node, and is kept
pub record IsHeld (files : List FileRules) (d : NodeAt) (paths : List (ℕ × Rule)) (j : Rule) : Type 0 where
  pub joined : IsJoined files paths j
  pub lands : (c next : Config) → apply j c ≡ Some next → next.spot ≡ At d
  pub kept : is_kept (graphs_of files) j ≡ true

-- such rules, each for the paths at its place
abbrev pub AreHeld : List FileRules → NodeAt → List (List (ℕ × Rule)) → List Rule → Type 0
AreHeld files d [] [] = ⊤
AreHeld files d [] (j ∷ rules) = ⊥
AreHeld files d (paths ∷ all) [] = ⊥
AreHeld files d (paths ∷ all) (j ∷ rules) = IsHeld files d paths j × AreHeld files d all rules

-- what comes of stored paths: a rule that is kept, exactly where they are a back list
abbrev pub IsOutcome : List FileRules → NodeAt → List (ℕ × Rule) → Option Rule → Type 0
IsOutcome files d paths found = MatchOption found (IsBack files d paths → ⊥) (IsHeld files d paths)

-- the reference that the rule begins before, where it asks for nothing
abbrev pub begun_at : Start → Bool → List NodeAt
begun_at (Before r) asks_none = if asks_none then r ∷ [] else []
begun_at (After spot) asks_none = []

abbrev pub begun : Rule → List NodeAt
begun j = begun_at j.start (is_none j.pre.symbols && is_none j.pre.scopes.fixed)

-- of the listed elements exactly those with the property, each as often
pub record AreThose {X : Type 0} (Q : X → Type 0) (listed those : List X) : Type 0 where
  pub sound : (x : X) → IsIn x those → IsIn x listed × Q x
  pub complete : (x : X) → IsIn x listed → Q x → IsIn x those
  pub apart : IsApart listed → IsApart those

-- stored paths with one more in front
abbrev pub in_front : List (ℕ × Rule) → ℕ × Rule → List (ℕ × Rule)
in_front paths p = p ∷ paths

-- what came of the listed paths in front of the others: so many more back lists, the rules kept for them, and rows
pub record IsExtended (files : List FileRules) (d : NodeAt) (paths listed added : List (ℕ × Rule)) (rules : List Rule) (old new : ℕ) (before after : List NodeAt) : Type 0 where
  pub those : AreThose (λ (p : ℕ × Rule). IsBack files d (p ∷ paths)) listed added
  pub held : AreHeld files d (map (in_front paths) added) rules
  pub count : new ≡ old + length added
  pub rows : after ≡ before ++ flat_map begun rules

-- the rule behind which paths are joined, for these stored paths; none where these are none
abbrev pub IsBehind : List FileRules → NodeAt → List (ℕ × Rule) → Spot → Option Rule → Type 0
IsBehind files d paths at o = MatchOption o ((paths ≡ []) × (at ≡ At d)) (λ (j : Rule). IsHeld files d paths j × (j.start ≡ After at))

-- whether more may be joined in front of the rule: before a reference nothing is
abbrev pub goes_on : Rule → Bool
goes_on j = is_after j.start

-- the same of what is kept in `work` too: the rules that go on are put behind those that were there
abbrev pub HasExtended : List FileRules → NodeAt → List (ℕ × Rule) → List (ℕ × Rule) → ℕ → ℕ → List NodeAt → List NodeAt → List Rule → List Rule → Type 0
HasExtended files d paths listed old new before after work more =
    (added : List (ℕ × Rule)) × (rules : List Rule) × IsExtended files d paths listed added rules old new before after × (more ≡ work ++ filter goes_on rules)

-- some of the first listed paths make as many back lists as there may be with those of before, and the next one more
pub record IsOverfull (files : List FileRules) (d : NodeAt) (paths listed : List (ℕ × Rule)) (old : ℕ) : Type 0 where
  pub part : List (ℕ × Rule)
  pub next : ℕ × Rule
  pub rest : List (ℕ × Rule)
  pub whole : listed ≡ part ++ next ∷ rest
  pub added : List (ℕ × Rule)
  pub those : AreThose (λ (p : ℕ × Rule). IsBack files d (p ∷ paths)) part added
  pub full : old + length added ≡ most_lists
  pub back : IsBack files d (next ∷ paths)

-- the symbols that the rule behind which paths are joined asks for; none where there is none
abbrev pub asked_behind : Option Rule → List SymPat
asked_behind None = []
asked_behind (Some j) = j.pre.symbols

-- a look-up of the paths in front of what is known was gone through, and this came of it
pub record HasTried (files : List FileRules) (at : Spot) (behind : Option Rule) (old new : ℕ) (before after : List NodeAt) (work more : List Rule) : Type 0 where
  pub listed : List (ℕ × Rule)
  pub ends : AreEnds files at (asked_behind behind) listed
  pub extended : (d : NodeAt) (paths : List (ℕ × Rule)) → IsTrue (is_definition_of (graphs_of files) d.file d.node) → IsBehind files d paths at behind
      → HasExtended files d paths listed old new before after work more

-- one of the paths of such a look-up is one too many
pub record IsTriedPast (files : List FileRules) (at : Spot) (behind : Option Rule) (old : ℕ) : Type 0 where
  pub listed : List (ℕ × Rule)
  pub ends : AreEnds files at (asked_behind behind) listed
  pub past : (d : NodeAt) (paths : List (ℕ × Rule)) → IsTrue (is_definition_of (graphs_of files) d.file d.node) → IsBehind files d paths at behind
      → IsOverfull files d paths listed old

-- a path behind which others are joined: it begins behind a spot and is within the bounds
pub record IsOpen (j : Rule) : Type 0 where
  pub after : is_after j.start ≡ true
  pub short : length j.edges ≤ most_edges
  pub low : j.peak ≤ most_depth
