-- What stands at the front of a text, row by row.
use Rattle.std.specs.Prelude.{ℕ, ◌+◌, Bool, false, not, ◌&&◌, ◌||◌, if◌then◌else◌, ◌==◌, nat_lt, nat_le, ◌<◌, ◌≤◌, length, List, [], ◌∷◌, take, drop, Option, None, Some, slice_index, codes, option_map, unwrap_or}
use Rattle.std.specs.Option.{option_or, option_map_or}
use Rattle.std.specs.List.{list_any, prefix_len}
use Rattle.std.specs.Str.{bytes_eq, IsAscii}
use Rattle.py_subset.specs.declared.token.Mark.{Mark}
use Rattle.py_subset.specs.declared.token.Mark.TheVariants as m
use Rattle.py_subset.specs.declared.piece.Piece.{Piece}
use Rattle.py_subset.specs.declared.piece.PieceKind.{PieceKind}
use Rattle.py_subset.specs.declared.piece.PieceKind.TheVariants as k
use Rattle.py_subset.specs.declared.piece.Flaw.{Flaw}
use Rattle.py_subset.specs.declared.piece.Flaw.TheVariants as flaw
use Rattle.py_subset.specs.declared.piece.Bracket.TheVariants as bracket

-- a space or a tab
abbrev pub is_blank : ℕ → Bool
is_blank b = (b == 32) || (b == 9)

-- an ASCII digit
abbrev pub is_digit : ℕ → Bool
is_digit b = nat_le 48 b && nat_le b 57

-- an ASCII letter or `_`
abbrev pub begins_name : ℕ → Bool
begins_name b = (nat_le 97 b && nat_le b 122) || (nat_le 65 b && nat_le b 90) || (b == 95)

-- what a name goes on with
abbrev pub is_in_name : ℕ → Bool
is_in_name b = begins_name b || is_digit b

-- a quote of either kind
abbrev pub is_quote : ℕ → Bool
is_quote b = (b == 39) || (b == 34)

-- neither a newline nor a carriage return
abbrev pub is_in_comment : ℕ → Bool
is_in_comment b = not (b == 10) && not (b == 13)

-- how many bytes at the front pass the test
abbrev pub run : (ℕ → Bool) → List ℕ → ℕ
run p xs = prefix_len p xs

-- whether the byte is in the text
abbrev pub holds : ℕ → List ℕ → Bool
holds b xs = list_any (λ x. x == b) xs

-- How far a string goes after its opening quote, with the closing one: on its line, and a backslash takes
-- the next byte with it. The flag says that the byte at the front is so taken.
abbrev pub closing : ℕ → Bool → List ℕ → Option ℕ
closing quote taken [] = None
closing quote taken (b ∷ bs) =
    if b == 10 then None
    else (if (b == quote) && not taken then Some 1
    else option_map (λ n. 1 + n) (closing quote ((b == 92) && not taken) bs))

-- the mark beside the first of these words that a name is
abbrev pub mark_in : List (List ℕ × Mark) → List ℕ → Option Mark
mark_in [] name = None
mark_in (r ∷ more) name = if bytes_eq name r.0 then Some r.1 else mark_in more name

-- keywords of two and three letters
abbrev pub short_keyword : List ℕ → Option Mark
short_keyword = mark_in (
    (codes "as", m.As) ∷ (codes "if", m.If) ∷ (codes "in", m.In) ∷ (codes "is", m.Is) ∷
    (codes "or", m.Or) ∷ (codes "and", m.And) ∷ (codes "def", m.Def) ∷ (codes "for", m.For) ∷
    (codes "not", m.Not) ∷ [])

-- longer keywords that the grammar has
abbrev pub long_keyword : List ℕ → Option Mark
long_keyword = mark_in (
    (codes "elif", m.Elif) ∷ (codes "else", m.Else) ∷ (codes "from", m.From) ∷
    (codes "pass", m.Pass) ∷ (codes "True", m.TrueWord) ∷ (codes "None", m.NoneWord) ∷
    (codes "break", m.Break) ∷ (codes "class", m.Class) ∷ (codes "False", m.FalseWord) ∷
    (codes "while", m.While) ∷ (codes "import", m.Import) ∷ (codes "return", m.Return) ∷
    (codes "continue", m.Continue) ∷ [])

-- keywords that the grammar doesn't have
abbrev pub foreign_keyword : List ℕ → Option Mark
foreign_keyword = mark_in (
    (codes "assert", m.Foreign) ∷ (codes "async", m.Foreign) ∷ (codes "await", m.Foreign) ∷
    (codes "del", m.Foreign) ∷ (codes "except", m.Foreign) ∷ (codes "finally", m.Foreign) ∷
    (codes "global", m.Foreign) ∷ (codes "lambda", m.Foreign) ∷ (codes "nonlocal", m.Foreign) ∷
    (codes "raise", m.Foreign) ∷ (codes "try", m.Foreign) ∷ (codes "with", m.Foreign) ∷
    (codes "yield", m.Foreign) ∷ [])

-- the keyword that a name is, if it is one
abbrev pub keyword : List ℕ → Option Mark
keyword name = option_or (short_keyword name) (option_or (long_keyword name) (foreign_keyword name))

-- a piece of this kind and length
abbrev pub of : PieceKind → ℕ → Piece
of kind n = record { kind = kind; len = n }

-- No token begins here.
abbrev pub broken : Flaw → Piece
broken why = of (k.Broken why) 1

-- a token that is no name, string or bracket
abbrev pub plain : Mark → ℕ → Piece
plain mark n = of (k.Plain mark) n

-- The sign that begins with the bytes b, c, d, the longest one: by rows for the signs that are doubled,
-- for those that go on with `=`, and for the others.
abbrev pub doubled : ℕ → ℕ → ℕ → Mark → Mark → Mark → Piece
doubled b c d single double equal =
    if c == b then (if d == 61 then plain m.Foreign 3 else plain double 2)
    else (if c == 61 then plain equal 2 else plain single 1)

-- a sign that may go on with `=` alone
abbrev pub assigned : ℕ → Mark → Piece
assigned c single = if c == 61 then plain m.Foreign 2 else plain single 1

-- no sign: which fault it is
abbrev pub unknown : ℕ → Piece
unknown b =
    if nat_le 128 b then broken flaw.NotAscii
    else (if b == 92 then broken flaw.Unsupported else broken flaw.BadToken)

-- the bracket that this byte is
abbrev pub bracket_at : ℕ → Option PieceKind
bracket_at b =
    if b == 40 then Some (k.Open bracket.Round)
    else (if b == 41 then Some (k.Close bracket.Round)
    else (if b == 91 then Some (k.Open bracket.Square)
    else (if b == 93 then Some (k.Close bracket.Square)
    else (if b == 123 then Some (k.Open bracket.Curly)
    else (if b == 125 then Some (k.Close bracket.Curly)
    else None)))))

-- signs of one byte that begin no other sign, and those with `=` alone
abbrev pub short_sign : ℕ → ℕ → Option Piece
short_sign b c =
    if b == 44 then Some (plain m.Comma 1)
    else (if b == 46 then Some (plain m.Dot 1)
    else (if b == 59 then Some (plain m.Foreign 1)
    else (if b == 126 then Some (plain m.Tilde 1)
    else (if b == 61 then Some (if c == 61 then plain m.EqualEqual 2 else plain m.Assign 1)
    else (if (b == 33) && (c == 61) then Some (plain m.NotEqual 2)
    else None)))))

-- signs that assign where `=` is behind them
abbrev pub assigning_sign : ℕ → ℕ → Option Piece
assigning_sign b c =
    if b == 43 then Some (assigned c m.Plus)
    else (if b == 45 then Some (if c == 62 then plain m.Foreign 2 else assigned c m.Minus)
    else (if b == 37 then Some (assigned c m.Percent)
    else (if b == 38 then Some (assigned c m.Ampersand)
    else (if b == 124 then Some (assigned c m.Bar)
    else (if b == 94 then Some (assigned c m.Caret)
    else (if b == 64 then Some (assigned c m.Foreign)
    else (if b == 58 then Some (assigned c m.Colon)
    else None)))))))

-- signs that may be doubled
abbrev pub doubling_sign : ℕ → ℕ → ℕ → Option Piece
doubling_sign b c d =
    if b == 42 then Some (doubled b c d m.Star m.Power m.Foreign)
    else (if b == 47 then Some (doubled b c d m.Slash m.DoubleSlash m.Foreign)
    else (if b == 62 then Some (doubled b c d m.Greater m.ShiftRight m.GreaterEqual)
    else (if b == 60 then Some (doubled b c d m.Less m.ShiftLeft m.LessEqual)
    else None)))

-- the longest sign that begins with these bytes, or which fault it is
abbrev pub sign : ℕ → ℕ → ℕ → Piece
sign b c d =
    unwrap_or (option_or (short_sign b c) (option_or (assigning_sign b c) (doubling_sign b c d)))
    (unknown b)

-- A word: a keyword, or a name that isn't directly before a quote.
abbrev pub word_piece : ℕ → List ℕ → Piece
word_piece n text =
    option_map_or (λ mark. plain mark n) (keyword (take n text))
    (if is_quote (slice_index text n) then broken flaw.Unsupported else of k.Name n)

-- A number has no leading zero before more digits, and stands directly before no letter, `_` or `.`.
abbrev pub number_piece : ℕ → List ℕ → Piece
number_piece n text =
    if ((slice_index text 0 == 48) && nat_lt 1 n) || begins_name (slice_index text n)
    || (slice_index text n == 46)
    then broken flaw.Unsupported else plain m.Number n

-- A string with its quotes, but for three quotes in a row.
abbrev pub text_piece : ℕ → List ℕ → Piece
text_piece quote text =
    if (slice_index text 1 == quote) && (slice_index text 2 == quote) then broken flaw.Unsupported
    else option_map_or (λ n. of (k.Text (holds 13 (take n (drop 1 text)))) (1 + n))
    (closing quote false (drop 1 text)) (broken flaw.BadToken)

-- A carriage return ends a line with the newline directly after it.
abbrev pub return_piece : ℕ → Piece
return_piece c = if c == 10 then of k.LineEnd 2 else broken flaw.BadToken

-- spaces and tabs
abbrev pub blanks_piece : ℕ → List ℕ → Piece
blanks_piece n text = of (k.Blanks (holds 9 (take n text))) n

-- what is no blank, comment, word, number or string
abbrev pub other_piece : ℕ → ℕ → ℕ → Piece
other_piece b c d =
    if b == 10 then of k.LineEnd 1
    else (if b == 13 then return_piece c
    else option_map_or (λ kind. of kind 1) (bracket_at b) (sign b c d))

-- the piece at the front of a text
unfoldable pub piece_at : List ℕ → Piece
piece_at text =
    let b = slice_index text 0 in
    if is_blank b then blanks_piece (run is_blank text) text
    else (if b == 35 then of k.Comment (run is_in_comment text)
    else (if begins_name b then word_piece (run is_in_name text) text
    else (if is_digit b then number_piece (run is_digit text) text
    else (if is_quote b then text_piece b text
    else other_piece b (slice_index text 1) (slice_index text 2)))))

-- The piece is no name.
abbrev pub IsNoName : PieceKind → Type 0
IsNoName k.Name = ⊥
IsNoName kind = Unit {0}

-- A name is ASCII.
abbrev pub IsSpelled : PieceKind → List ℕ → Type 0
IsSpelled k.Name bytes = IsAscii bytes
IsSpelled kind bytes = Unit {0}

-- The piece takes a byte, and no more than there are.
pub record IsWithin (p : Piece) (text : List ℕ) : Type 0 where
  pub some : 0 < p.len
  pub within : p.len ≤ length text
  pub spelled : IsSpelled p.kind (take p.len text)

-- A piece of a sign takes one to three bytes, the second and the third where they aren't 0.
pub record IsShort (p : Piece) (c d : ℕ) : Type 0 where
  pub some : 0 < p.len
  pub most : p.len ≤ 3
  pub second : 1 < p.len → 0 < c
  pub third : 2 < p.len → 0 < d
  pub no_name : IsNoName p.kind
