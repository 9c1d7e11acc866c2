-- Laws of what an editor is told.
use Rattle.std.specs.Prelude.{◌≡◌, ◌≢◌, ℕ, Bool, List, [], ◌∷◌}
use Rattle.std.specs.List.{AllByRecursion}
use Rattle.version_tree.specs.Graphs.{GraphRow}
use Rattle.lsp_wire.specs.declared.message.Position.{Position}
use Rattle.lsp_wire.specs.declared.reply.Outcome.{Outcome}
use Rattle.lsp_texts.specs.Texts.{Texts}
use Rattle.lsp_answers.specs.Queries.{IsPlaced, TellsDefinitions, TellsReferences}

-- no two files have the same path, as it is with those of a version
abbrev pub HavePathsApart : List GraphRow → Type 0
HavePathsApart [] = Unit {0}
HavePathsApart (file ∷ files) =
    AllByRecursion (λ (later : GraphRow). file.path ≢ later.path) files × HavePathsApart files

-- of a place in a document an editor is told one outcome, which the files, the root, the texts and the place determine
pub record PlacesHaveOneOutcome : Type 0 where
  pub definitions : (files : List GraphRow) (root : List ℕ) (texts : Texts) (uri : List ℕ)
      (at : Position) (a b : Outcome)
      → IsPlaced root texts uri at (TellsDefinitions files root texts) a
      → IsPlaced root texts uri at (TellsDefinitions files root texts) b → a ≡ b
  pub references : (files : List GraphRow) (root : List ℕ) (texts : Texts) (declaration : Bool)
      (uri : List ℕ) (at : Position) (a b : Outcome)
      → HavePathsApart files
      → IsPlaced root texts uri at (TellsReferences files root texts declaration) a
      → IsPlaced root texts uri at (TellsReferences files root texts declaration) b → a ≡ b
