-- The texts of open documents: which document has which path, and the last text that was put at each.
use Rattle.std.specs.Prelude.{◌≡◌, ℕ, Bool, is_some, List, ◌++◌, ◌∷◌, Option, None, option_and_then, if◌then◌else◌}
use Rattle.std.specs.BTreeMap.{get_by_text}
use Rattle.std.specs.Str.{bytes_eq}
use Rattle.lsp_wire.specs.Uris.{encoded}
use Rattle.lsp_texts.specs.declared.open_texts.OpenTexts.{OpenTexts}

-- the text at each path, where there is one
abbrev pub Texts : Type 0
Texts = List ℕ → Option (List ℕ)

-- no path has a text
abbrev pub no_texts : Texts
no_texts path = None

-- the same but for one path, which has this text or none
abbrev pub with_text : List ℕ → Option (List ℕ) → Texts → Texts
with_text path text texts other = if bytes_eq other path then text else texts other

-- the texts that stand in the rooms, of which some are empty
abbrev pub texts_in : OpenTexts → Texts
texts_in docs path =
    option_and_then (λ (text : Option (List ℕ)). text) (get_by_text docs.rooms path)

-- whether there is room at the path
abbrev pub has_room : OpenTexts → List ℕ → Bool
has_room docs path = is_some (get_by_text docs.rooms path)

-- the same texts at each path
abbrev pub AreSame : Texts → Texts → Type 0
AreSame old new = (path : List ℕ) → new path ≡ old path

-- the URI of the document at a path of the project
abbrev pub uri_under : List ℕ → List ℕ → List ℕ
uri_under root path = encoded (root ++ 47 ∷ path)
