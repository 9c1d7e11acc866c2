-- Asking all references of files for their definitions, and what is kept of them. No public clause cites this.
use Rattle.std.specs.Prelude.{◌≡◌, ℕ, ◌+◌, ◌/◌, ◌%◌, ◌<◌, max, min, List, [], ◌∷◌, ◌++◌, ◌||◌, length, Contains, slice_get, Option, Some, None, Bool, IsTrue, IsSomeAnd, true, false, ◌⊎◌, ◌↔◌, if◌then◌else◌, Result, Ok, Err, MatchResult}
use Rattle.std.specs.List.{filter_map}
use Rattle.std.specs.List.Sorted.{IsStrictlySortedBy}
use Rattle.graph_nodes.specs.declared.node.Node.{Node}
use Rattle.graph_nodes.specs.Graph.{Graph, is_reference_kind, is_definition_kind}
use Rattle.graph_nodes.specs.Whole.{is_reference_of}
use Rattle.list_facts.specs.Members.{IsIn}
use Rattle.stacks_vars.specs.declared.scopes.NodeAt.{NodeAt}
use Rattle.partial_path.specs.declared.config.Config.{Config}
use Rattle.partial_path.specs.declared.bounds.Bounds.{Bounds}
use Rattle.partial_path.specs.Spots.{node_at}
use Rattle.partial_path.specs.Step.{start}
use Rattle.partial_path.specs.Counted.{IsCrowded, HasLimit}
use Rattle.whole_search.specs.declared.found.Hit.{Hit}
use Rattle.stitcher.specs.declared.found.StitchFault.{StitchFault}
use Rattle.stitcher.specs.declared.found.StitchFault.TheVariants as stitch
use Rattle.whole_search.specs.Answers.{IsDefinitionFrom, AreDefinitions, AreReferences, IsReferenceOf, IsAnyCrowded, HasAnyLimit}
use Rattle.version_tree.specs.declared.row.Answer.{Answer}
use Rattle.version_tree.specs.declared.row.Row.{Row}
use Rattle.version_tree.specs.Graphs.{GraphRow}
use Rattle.nav_answers.specs.declared.asked_view.Known.{Known}
use Rattle.nav_answers.specs.declared.asked_view.Told.{Told}
use Rattle.nav_answers.specs.declared.asked_view.Told.TheVariants.{Each, Crowded}
use Rattle.nav_answers.specs.declared.links.Link.{Link}
use Rattle.nav_answers.specs.declared.links.Links.{Links}
use Rattle.nav_answers.specs.declared.found.At.TheVariants as at
use Rattle.nav_answers.specs.declared.found.AskFault.{AskFault}
use Rattle.nav_answers.specs.declared.found.AskFault.TheVariants.{NoDefinition}
use Rattle.nav_answers.specs.Links.{Table, by_link, links_of}
use Rattle.nav_answers.specs.Replies.{graphs_in, hit_of, meant, IsReplyAbout}

-- the references among nodes of a file with that number, of which the first has that position
abbrev pub references_in : ℕ → ℕ → List Node → List NodeAt
references_in file n [] = []
references_in file n (node ∷ nodes) =
    (if is_reference_kind node.kind then node_at file n ∷ [] else []) ++ references_in file (n + 1) nodes

-- the references of files of which the first has that number, in file order
abbrev pub references_from : ℕ → List Graph → List NodeAt
references_from file [] = []
references_from file (g ∷ files) = references_in file 0 g.nodes ++ references_from (file + 1) files

-- the node is a reference of the files
abbrev pub IsReferenceIn : List Graph → NodeAt → Type 0
IsReferenceIn files at = IsTrue (is_reference_of files at.file at.node)

-- one of these is a definition of the paths that start here
abbrev pub IsOneFrom : Bounds → List Graph → List Hit → Config → Type 0
IsOneFrom bounds files definitions c = (definition : Hit) × Contains definitions definition × IsDefinitionFrom bounds files c definition

-- what was found of a reference, its definitions and the flag, is so from where its paths start
pub record IsFoundFrom (bounds : Bounds) (files : List Graph) (rows : List Hit) (limit : Bool) (c : Config) : Type 0 where
  pub exact : AreDefinitions bounds files c rows
  pub limit_is : IsTrue limit ↔ HasLimit bounds files c
  pub few : IsCrowded bounds files c → ⊥

-- one of the references is crowded
abbrev pub IsCrowdedAmong : Bounds → List Graph → List NodeAt → Type 0
IsCrowdedAmong bounds files all = (at : NodeAt) × IsIn at all × IsSomeAnd (start files at) (IsCrowded bounds files)

-- the paths of the reference have a start, and from there what was found of it is so
abbrev pub IsFound : Bounds → List Graph → NodeAt → List Hit → Bool → Type 0
IsFound bounds files reference rows limit = IsSomeAnd (start files reference) (IsFoundFrom bounds files rows limit)

-- the node that the hit names
abbrev pub place_of : Hit → NodeAt
place_of hit = node_at hit.file hit.node

-- The links are those of references that were asked, each with one of its definitions. All of those to a definition
-- that is held are there. The flag is true exactly where one of the references has a counted run that isn't bounded.
-- None of them is crowded.
pub record AreLinks (bounds : Bounds) (files : List Graph) (Held : Hit → Type 0) (IsAsked : NodeAt → Type 0) (links : List Link) (limit : Bool) : Type 0 where
  pub sound : (link : Link) → Contains links link → IsAsked (place_of link.reference) × IsReferenceOf bounds files link.definition link.reference
  pub all : (link : Link) → Held link.definition → IsAsked (place_of link.reference) → IsReferenceOf bounds files link.definition link.reference → Contains links link
  pub limit_is : IsTrue limit ↔ ((at : NodeAt) × IsAsked at × IsSomeAnd (start files at) (HasLimit bounds files))
  pub few : (at : NodeAt) → IsAsked at → IsSomeAnd (start files at) (IsCrowded bounds files) → ⊥

-- whether the links to the definition are held: to each where all are, else to these alone
abbrev pub IsHeld : Bool → List Hit → Hit → Type 0
IsHeld whole definitions definition = IsTrue whole ⊎ IsIn definition definitions

-- the links that are found so far of references
abbrev pub AreFound : Bounds → List Graph → List Hit → (NodeAt → Type 0) → Links → Type 0
AreFound bounds files definitions IsAsked links = AreLinks bounds files (IsHeld links.whole definitions) IsAsked links.list.items links.limit

-- so it is of links in several lists
abbrev pub AreTabled : Bounds → List Graph → List Hit → (NodeAt → Type 0) → Table → Type 0
AreTabled bounds files definitions IsAsked table = AreLinks bounds files (IsHeld table.whole definitions) IsAsked table.list table.limit

-- so it is of these references
abbrev pub AreLinksOf : Bounds → List Graph → List Hit → List NodeAt → Table → Type 0
AreLinksOf bounds files definitions all table = AreTabled bounds files definitions (λ (at : NodeAt). IsIn at all) table

-- the links to other definitions are let go
pub record LetsGo (definitions : List Hit) (old new : Links) : Type 0 where
  pub exact : (link : Link) → Contains new.list.items link ↔ (Contains old.list.items link × IsIn link.definition definitions)
  pub limit_is : new.limit ≡ old.limit
  pub whole_is : new.whole ≡ false

-- they are, or nothing is changed
abbrev pub Holds : List Hit → Links → Links → Type 0
Holds definitions old new = (new ≡ old) ⊎ LetsGo definitions old new

-- what was found of the reference is added
pub record AddsLinks (bounds : Bounds) (files : List Graph) (reference : NodeAt) (old new : Links) : Type 0 where
  pub rows : List Hit
  pub flag : Bool
  pub found : IsFound bounds files reference rows flag
  pub list_is : new.list.items ≡ old.list.items ++ links_of (hit_of reference) rows
  pub limit_is : new.limit ≡ (old.limit || flag)
  pub whole_is : new.whole ≡ old.whole

-- The links of all references of the files to the definitions that are held.
pub record IsTable (bounds : Bounds) (files : List Graph) (Held : Hit → Type 0) (links : List Link) (limit : Bool) : Type 0 where
  pub sound : (link : Link) → Contains links link → IsReferenceOf bounds files link.definition link.reference
  pub all : (link : Link) → Held link.definition → IsReferenceOf bounds files link.definition link.reference → Contains links link
  pub limit_is : IsTrue limit ↔ HasAnyLimit bounds files
  pub few : IsAnyCrowded bounds files → ⊥

-- what was found of all references of the files is so: their links to these definitions, or that one of them is crowded
abbrev pub IsTold : Bounds → List Graph → List Hit → Told → Type 0
IsTold bounds files definitions (Each table) = IsTable bounds files (IsHeld table.whole definitions) table.list table.limit
IsTold bounds files definitions Crowded = IsAnyCrowded bounds files

-- whether it tells of all definitions
abbrev pub is_whole : Told → Bool
is_whole (Each table) = table.whole
is_whole Crowded = true

-- whether it tells that none of them is crowded
abbrev pub is_each : Told → Bool
is_each (Each table) = true
is_each Crowded = false

abbrev pub IsKnownOf : List Graph → List Hit → Known → Type 0
IsKnownOf files definitions known = IsTold known.bounds files definitions known.told

-- what is kept of a view is what its references are within these bounds, whatever the definitions are
abbrev pub IsKnown : List Graph → Known → Type 0
IsKnown files known = (definitions : List Hit) → IsKnownOf files definitions known

-- the node is a reference of the files, of which one of these is a definition
abbrev pub IsReferenceOfAny : Bounds → List Graph → List Hit → Hit → Type 0
IsReferenceOfAny bounds files definitions hit = IsSomeAnd (start files (node_at hit.file hit.node)) (IsOneFrom bounds files definitions)

-- the reply about several definitions
abbrev pub IsReplyToAny : Bounds → List GraphRow → List Hit → Result Answer AskFault → Type 0
IsReplyToAny bounds rows definitions reply =
    IsReplyAbout (IsReferenceOfAny bounds (graphs_in rows) definitions) (HasAnyLimit bounds (graphs_in rows)) (IsAnyCrowded bounds (graphs_in rows)) rows reply

-- there is a list of the definition's references
abbrev pub HasReferences : Bounds → List Graph → Hit → Type 0
HasReferences bounds files definition = (rows : List Hit) × AreReferences bounds files definition rows

-- the definition at the node that a row names, where there is one
abbrev pub hit_at : Result NodeAt AskFault → Option Hit
hit_at (Ok node) = Some (hit_of node)
hit_at (Err fault) = None

-- the definition that a row names by its path and node
abbrev pub definition_named : List GraphRow → Row → Option Hit
definition_named files row = hit_at (meant is_definition_kind NoDefinition files row.path (at.Node row.node))

-- those at the nodes that rows name
abbrev pub definitions_named : List GraphRow → List Row → List Hit
definitions_named files rows = filter_map (definition_named files) rows

-- how many references that follow one another are one share's, of so many in so many shares
abbrev pub run_of : ℕ → ℕ → ℕ
run_of references shares = max (min (references / shares / 4) 128) 1

-- which of so many shares has what stands at the place: runs are dealt out in turn
abbrev pub share_of : List NodeAt → ℕ → ℕ → ℕ
share_of all step place = place / run_of (length all) step % step

-- the node stands in the list at a place below `end` that is in the share `first` of so many
abbrev pub IsShareOf : List NodeAt → ℕ → ℕ → ℕ → NodeAt → Type 0
IsShareOf all step first end at = (k : ℕ) × (k < end) × (share_of all step k ≡ first) × (slice_get all k ≡ Some at)

-- it stands in one of the first so many shares
abbrev pub IsInShares : List NodeAt → ℕ → ℕ → NodeAt → Type 0
IsInShares all step count at = (k : ℕ) × (k < length all) × (share_of all step k < count) × (slice_get all k ≡ Some at)

-- what was found of the references of a share, in order
pub record AreInShare (bounds : Bounds) (files : List Graph) (definitions : List Hit) (all : List NodeAt) (step first : ℕ) (links : Links) : Type 0 where
  pub found : AreFound bounds files definitions (IsShareOf all step first (length all)) links
  pub order : IsStrictlySortedBy by_link links.list.items

-- what one thread tells in the end: what was found of its references, or its fault
abbrev pub IsDone : Bounds → List Graph → List Hit → List NodeAt → ℕ → ℕ → Result Links StitchFault → Type 0
IsDone bounds files definitions all step first share =
    MatchResult share (AreInShare bounds files definitions all step first) (λ fault. fault ≡ stitch.Crowded → IsCrowdedAmong bounds files all)
