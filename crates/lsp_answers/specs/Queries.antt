-- What an editor is told of definitions and references.
use Rattle.std.specs.Prelude.{◌≡◌, ◌⊎◌, ℕ, Bool, if◌then◌else◌, List, [], ◌∷◌, ◌++◌, map, Option, MatchOption, Result, Ok, Err, MatchResult}
use Rattle.graph_nodes.specs.Graph.{is_definition_kind}
use Rattle.partial_path.specs.declared.bounds.Bounds.{Bounds}
use Rattle.version_tree.specs.declared.row.Answer.{Answer}
use Rattle.version_tree.specs.declared.row.Row.{Row}
use Rattle.version_tree.specs.Graphs.{GraphRow}
use Rattle.nav_answers.specs.declared.found.At.{At}
use Rattle.nav_answers.specs.declared.found.At.TheVariants.{Point}
use Rattle.nav_answers.specs.declared.found.AskFault.{AskFault}
use Rattle.nav_answers.specs.declared.found.AskFault.TheVariants as ask
use Rattle.nav_answers.specs.Replies.{IsDefineReply, ReferToEach, IsOneCrowded, meant, hit_of, row_of}
use Rattle.text_units.specs.Lines.{line_at}
use Rattle.text_units.specs.Units.{IsBytesAt}
use Rattle.lsp_wire.specs.declared.message.Position.{Position}
use Rattle.lsp_wire.specs.declared.reply.Location.{Location}
use Rattle.lsp_wire.specs.declared.reply.Outcome.{Outcome}
use Rattle.lsp_wire.specs.declared.reply.Outcome.TheVariants.{Null, Locations, Refused}
use Rattle.lsp_wire.specs.declared.reply.Refusal.TheVariants.{Crowded}
use Rattle.lsp_texts.specs.Texts.{Texts}
use Rattle.lsp_texts.specs.Places.{location_in}
use Rattle.row_sets.specs.Rows.{AreInOrder}
use Rattle.lsp_answers.specs.Documents.{path_under}

-- the bounds of each query
abbrev pub usual : Bounds
usual = record { edges = 128; depth = 48 }

-- A place that an editor names: nowhere, where the document isn't inside, no text of it was accepted or that has no such
-- line; and else at a column in bytes.
abbrev pub IsPlaced : List ℕ → Texts → List ℕ → Position → (List ℕ → At → Outcome → Type 0)
    → Outcome → Type 0
IsPlaced root texts uri position IsTold outcome =
    MatchOption (path_under root uri) (outcome ≡ Null) (λ path.
    MatchOption (texts path) (outcome ≡ Null) (λ text.
    (column : Option ℕ) × IsBytesAt (line_at text position.line) position.character column
    × MatchOption column (outcome ≡ Null) (λ c. IsTold path (Point position.line c) outcome)))

-- a row of an answer, and rows, as an editor is told of them
unfoldable pub location_of : List ℕ → Texts → Row → Location
location_of root texts row = location_in root texts row.path row.span

abbrev pub located : List ℕ → Texts → List Row → Outcome
located root texts rows = Locations (map (location_of root texts) rows)

-- why there are no rows
abbrev pub outcome_of_fault : AskFault → Outcome
outcome_of_fault ask.NoFile = Null
outcome_of_fault ask.NoReference = Null
outcome_of_fault ask.NoDefinition = Null
outcome_of_fault ask.Crowded = Refused Crowded
outcome_of_fault ask.NoMemory = Null

-- the definitions of the reference at a place, or why there are none
abbrev pub AreDefinitions : List GraphRow → List ℕ → At → Result (List Row) AskFault → Type 0
AreDefinitions files path at (Ok rows) =
    (answer : Answer) × (rows ≡ answer.rows) × IsDefineReply usual files path at (Ok answer)
AreDefinitions files path at (Err fault) = IsDefineReply usual files path at (Err fault)

-- what an editor is told of them
pub record TellsDefinitions (files : List GraphRow) (root : List ℕ) (texts : Texts) (path : List ℕ)
    (at : At) (outcome : Outcome) : Type 0 where
  pub found : Result (List Row) AskFault
  pub exact : AreDefinitions files path at found
  pub told : MatchResult found (λ rows. outcome ≡ located root texts rows)
      (λ fault. outcome ≡ outcome_of_fault fault)

-- the targets of `references` at a place: the definition there, and where there is none the definitions of the reference
-- there
abbrev pub AreTargets : List GraphRow → List ℕ → At → Result (List Row) AskFault → Type 0
AreTargets files path at targets =
    MatchResult (meant is_definition_kind ask.NoDefinition files path at)
    (λ node. targets ≡ Ok (row_of files (hit_of node) ∷ []))
    (λ fault. AreDefinitions files path at targets)

-- the rows are the references of each of the targets, one target after the other: a node that is no definition would
-- have none, but each target is one
abbrev pub ReferToAll : List GraphRow → List Row → List Row → Type 0
ReferToAll files targets all = ReferToEach usual files targets all

-- a target of which the references are crowded
abbrev pub IsCrowdedOne : List GraphRow → List Row → Type 0
IsCrowdedOne files targets = IsOneCrowded usual files targets

-- what an editor is told of the references of targets: with the targets where the declaration is asked for, each once
-- in file order
pub record IsUnion (files : List GraphRow) (root : List ℕ) (texts : Texts) (targets : List Row)
    (declaration : Bool) (outcome : Outcome) : Type 0 where
  pub all : List Row
  pub rows : List Row
  pub referred : ReferToAll files targets all
  pub in_order : AreInOrder (if declaration then all ++ targets else all) rows
  pub told : outcome ≡ located root texts rows

-- an editor is told of those, or is refused where the references of a target are crowded
abbrev pub TellsTargets : List GraphRow → List ℕ → Texts → List Row → Bool → Outcome → Type 0
TellsTargets files root texts targets declaration outcome =
    IsUnion files root texts targets declaration outcome
    ⊎ (IsCrowdedOne files targets × (outcome ≡ Refused Crowded))

-- what an editor is told of the references at a place: those of its targets, or why there are no targets
pub record TellsReferences (files : List GraphRow) (root : List ℕ) (texts : Texts)
    (declaration : Bool) (path : List ℕ) (at : At) (outcome : Outcome) : Type 0 where
  pub targets : Result (List Row) AskFault
  pub exact : AreTargets files path at targets
  pub told : MatchResult targets (λ rows. TellsTargets files root texts rows declaration outcome)
      (λ fault. outcome ≡ outcome_of_fault fault)
