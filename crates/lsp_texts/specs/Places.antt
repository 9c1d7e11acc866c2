-- Places as editors count them: lines from 0, and UTF-16 code units from the start of the line.
use Rattle.std.specs.Prelude.{ℕ, List, Option, None, Some, take}
use Rattle.std.specs.Option.{option_map_or}
use Rattle.graph_nodes.specs.declared.node.Span.{Span}
use Rattle.text_units.specs.Lines.{line_at}
use Rattle.text_units.specs.Units.{units_in}
use Rattle.lsp_wire.specs.declared.message.Position.{Position}
use Rattle.lsp_wire.specs.declared.reply.Location.{Location}
use Rattle.lsp_texts.specs.Texts.{Texts, uri_under}

-- the units before a column in bytes of a line, 0 where the text has no such line
abbrev pub units_before : List ℕ → ℕ → ℕ → ℕ
units_before text line column =
    option_map_or (λ (bytes : List ℕ). units_in (take column bytes)) (line_at text line) 0

-- the place of a line and a column in bytes, as editors count it
abbrev pub position_in : List ℕ → ℕ → ℕ → Position
position_in text line column = record { line = line; character = units_before text line column }

-- the same where there may be no text, and else the beginning of the line
abbrev pub position_at : Option (List ℕ) → ℕ → ℕ → Position
position_at None line column = record { line = line; character = 0 }
position_at (Some text) line column = position_in text line column

-- A part of the document at a path, where that is its text: the part that a span tells, and the document's beginning
-- where there is no span.
abbrev pub location_with : List ℕ → List ℕ → Option (List ℕ) → Option Span → Location
location_with root path text None =
    record { uri = uri_under root path; start = position_at text 0 0; end = position_at text 0 0 }
location_with root path text (Some span) = record {
  uri = uri_under root path;
  start = position_at text span.from_line span.from_column;
  end = position_at text span.to_line span.to_column;
}

-- the same of the texts that there are
abbrev pub location_in : List ℕ → Texts → List ℕ → Option Span → Location
location_in root texts path span = location_with root path (texts path) span
