-- The place in a text that a position of an editor names.
use Rattle.std.specs.Prelude.{◌≡◌, ℕ, List, Option, None, MatchOption, option_map}
use Rattle.text_units.specs.Lines.{line_at}
use Rattle.text_units.specs.Units.{IsBytesAt}
use Rattle.lsp_wire.specs.declared.message.Position.{Position}
use Rattle.lsp_texts.specs.Texts.{Texts}
use Rattle.lsp_answers.specs.declared.querying.Place.{Place}
use Rattle.lsp_answers.specs.Documents.{path_under}

-- its path, its line and its column in bytes, where there is one
abbrev pub IsPlace : List ℕ → Texts → List ℕ → Position → Option Place → Type 0
IsPlace root texts uri position place =
    MatchOption (path_under root uri) (place ≡ None) (λ path.
    MatchOption (texts path) (place ≡ None) (λ text.
    (column : Option ℕ) × IsBytesAt (line_at text position.line) position.character column
    × (place ≡ option_map
    (λ (c : ℕ). record { path = path; line = position.line; column = c }) column)))
