-- From pieces to tokens: lines, indentation and brackets, and the first fault.
use Rattle.std.specs.Prelude.{◌≡◌, ℕ, ◌+◌, ◌-◌, Bool, true, false, ◌&&◌, ◌||◌, if◌then◌else◌, ◌==◌, nat_lt, nat_le, List, [], ◌∷◌, ◌++◌, length, take, zero, suc, pred, Option, None, Some, Result, Ok, Err, slice_index, slice_get, replicate, take_while, count_by}
use Rattle.py_subset.specs.declared.token.Mark.{Mark}
use Rattle.py_subset.specs.declared.token.Mark.TheVariants as m
use Rattle.py_subset.specs.declared.token.Token.{Token}
use Rattle.py_subset.specs.declared.token.PyFault.{PyFault}
use Rattle.py_subset.specs.declared.token.PyFault.TheVariants as fault
use Rattle.py_subset.specs.declared.piece.PieceKind.{PieceKind}
use Rattle.py_subset.specs.declared.piece.PieceKind.TheVariants as k
use Rattle.py_subset.specs.declared.piece.Flaw.{Flaw}
use Rattle.py_subset.specs.declared.piece.Flaw.TheVariants as flaw
use Rattle.py_subset.specs.declared.piece.Bracket.{Bracket}
use Rattle.py_subset.specs.declared.piece.Bracket.TheVariants as bracket
use Rattle.py_subset.specs.declared.reading.Reading.{Reading}
use Rattle.py_subset.specs.declared.reading.Place.{Place}
use Rattle.py_subset.specs.Pieces.{piece_at}

-- first the one, and then what follows from its value; the first fault ends it
infixl 10 ◌>>=◌
abbrev pub ◌>>=◌ : {A B : Type 0} → Result A PyFault → (A → Result B PyFault) → Result B PyFault
(Ok x) >>= f = f x
(Err e) >>= f = Err e

-- a token other than a name
abbrev pub token : Mark → ℕ → Token
token mark line = record {
  mark = mark;
  word = record { text = []; line = line; from_column = 0; to_column = 0 };
}

-- a name where it stands, with its text
abbrev pub name_token : List ℕ → Place → Token
name_token text place = record {
  mark = m.Name;
  word = record {
    text = text;
    line = place.line;
    from_column = place.column;
    to_column = place.column + length text;
  };
}

-- how many brackets and blocks may be open at once
abbrev pub most_open : ℕ
most_open = 64

-- the reading with a token more
abbrev pub add : Token → Reading → Reading
add t r = record r { tokens = r.tokens ++ t ∷ [] }

-- whether one more bracket or block is too many
abbrev pub is_full : Reading → Bool
is_full r = nat_le most_open (length r.blocks + length r.brackets)

-- the column of the innermost block, 0 where there is none
abbrev pub innermost : List ℕ → ℕ
innermost blocks = slice_index blocks (length blocks - 1)

-- The blocks that a line with this indentation leaves open: those whose column is no greater.
abbrev pub kept : ℕ → List ℕ → List ℕ
kept column blocks = take_while (λ b. nat_le b column) blocks

-- A line begins: it ends the blocks that are deeper, and then it has the column of the innermost one, or,
-- where it ends none, begins a block.
abbrev pub indented : Place → Reading → Result Reading PyFault
indented place r =
    let open_yet = kept place.column r.blocks in
    if innermost open_yet == place.column
    then Ok (record r {
      tokens = r.tokens
          ++ replicate (length r.blocks - length open_yet) (token m.Dedent place.line);
      blocks = open_yet;
      fresh = false;
    })
    else (if length open_yet == length r.blocks
    then (if is_full r then Err (fault.TooDeep place.line)
    else Ok (record r {
      tokens = r.tokens ++ token m.Indent place.line ∷ [];
      blocks = r.blocks ++ place.column ∷ [];
      fresh = false;
    }))
    else Err (fault.BadIndent place.line))

-- the first token of a line begins it
abbrev pub begin : Place → Reading → Result Reading PyFault
begin place r = if r.fresh then indented place r else Ok r

-- the mark of an opening bracket
abbrev pub open_mark : Bracket → Mark
open_mark bracket.Round = m.OpenRound
open_mark bracket.Square = m.OpenSquare
open_mark bracket.Curly = m.OpenCurly

-- the mark of a closing bracket
abbrev pub close_mark : Bracket → Mark
close_mark bracket.Round = m.CloseRound
close_mark bracket.Square = m.CloseSquare
close_mark bracket.Curly = m.CloseCurly

-- whether two brackets are of one kind
abbrev pub is_same : Bracket → Bracket → Bool
is_same bracket.Round bracket.Round = true
is_same bracket.Square bracket.Square = true
is_same bracket.Curly bracket.Curly = true
is_same _ _ = false

-- whether the bracket closes the innermost one
abbrev pub closes : Bracket → Option Bracket → Bool
closes b None = false
closes b (Some inner) = is_same inner b

-- the fault that a flaw is, with its line
abbrev pub fault_of : Flaw → ℕ → PyFault
fault_of flaw.NotAscii line = fault.NotAscii line
fault_of flaw.BadToken line = fault.BadToken line
fault_of flaw.Unsupported line = fault.Unsupported line

-- a name
abbrev pub name : List ℕ → Place → Reading → Result Reading PyFault
name bytes place r = begin place r >>= λ s. Ok (add (name_token bytes place) s)

-- a token that is no name, string or bracket
abbrev pub plain : Mark → Place → Reading → Result Reading PyFault
plain mark place r = begin place r >>= λ s. Ok (add (token mark place.line) s)

-- a string, in which no carriage return may stand
abbrev pub text : Bool → Place → Reading → Result Reading PyFault
text has_return place r =
    begin place r >>= λ s. if has_return then Err (fault.BadToken place.line)
    else Ok (add (token m.Text place.line) s)

-- an opening bracket, unless one more is too many
abbrev pub opened : Bracket → Place → Reading → Result Reading PyFault
opened b place r =
    begin place r >>= λ s. if is_full s then Err (fault.TooDeep place.line)
    else Ok (add (token (open_mark b) place.line) (record s { brackets = s.brackets ++ b ∷ [] }))

-- a closing bracket, which closes the innermost one
abbrev pub closed : Bracket → Place → Reading → Result Reading PyFault
closed b place r =
    if closes b (slice_get r.brackets (length r.brackets - 1))
    then Ok (add (token (close_mark b) place.line)
    (record r { brackets = take (length r.brackets - 1) r.brackets }))
    else Err (fault.BadToken place.line)

-- A line's end gives NEWLINE where the line counts and no bracket is open.
abbrev pub line_end : Place → Reading → Result Reading PyFault
line_end place r =
    if r.fresh || nat_lt 0 (length r.brackets) then Ok (record r { tab = false })
    else Ok (record r {
      tokens = r.tokens ++ token m.Newline place.line ∷ [];
      fresh = true;
      tab = false;
    })

-- what a piece adds that makes a line count
abbrev pub counted : PieceKind → List ℕ → Place → Reading → Result Reading PyFault
counted k.Name bytes place r = name bytes place r
counted (k.Plain mark) bytes place r = plain mark place r
counted (k.Text has_return) bytes place r = text has_return place r
counted (k.Open b) bytes place r = opened b place r
counted (k.Close b) bytes place r = closed b place r
counted (k.Broken why) bytes place r = Err (fault_of why place.line)
counted (k.Blanks tab) bytes place r = Ok r
counted k.Comment bytes place r = Ok r
counted k.LineEnd bytes place r = Ok r

-- What a piece adds. No tab stands in the indentation of a line that counts.
abbrev pub step : PieceKind → List ℕ → Place → Reading → Result Reading PyFault
step (k.Blanks tab) bytes place r = Ok (record r { tab = r.tab || (r.fresh && tab) })
step k.Comment bytes place r = Ok (record r { tab = false })
step k.LineEnd bytes place r = line_end place r
step kind bytes place r =
    if r.tab then Err (fault.Unsupported place.line) else counted kind bytes place r

-- The end of the text: the line's end where it lacks one, and the end of each block.
abbrev pub finish : ℕ → Reading → Result (List Token) PyFault
finish line r =
    if nat_lt 0 (length r.brackets) then Err (fault.BadToken line)
    else Ok ((if r.fresh then r.tokens else r.tokens ++ token m.Newline line ∷ [])
    ++ replicate (length r.blocks) (token m.Dedent line))

-- a piece with its bytes, where it stands
pub record Placed : Type 0 where
  pub kind : PieceKind
  pub bytes : List ℕ
  pub place : Place

-- the pieces in turn, and then the end of the text
abbrev pub layout : ℕ → List Placed → Reading → Result (List Token) PyFault
layout line [] r = finish line r
layout line (p ∷ ps) r = step p.kind p.bytes p.place r >>= λ s. layout line ps s

-- A line's end leads to the next line, any other piece on by its length.
abbrev pub past : PieceKind → ℕ → Place → Place
past k.LineEnd len place = record { line = place.line + 1; column = 0 }
past kind len place = record { line = place.line; column = place.column + len }

-- The pieces of a text: each takes its bytes, which are passed over (their number is given first) before
-- the next one begins.
abbrev pub cut : ℕ → Place → List ℕ → List Placed
cut over place [] = []
cut (suc over) place (b ∷ bs) = cut over place bs
cut zero place (b ∷ bs) =
    let piece = piece_at (b ∷ bs) in
    record { kind = piece.kind; bytes = take piece.len (b ∷ bs); place = place }
    ∷ cut (pred piece.len) (past piece.kind piece.len place) bs

-- before the first line
abbrev pub start : Reading
start = record { tokens = []; blocks = []; brackets = []; fresh = true; tab = false }

-- the line of the text's end: how many newlines it has
abbrev pub end_line : List ℕ → ℕ
end_line bytes = count_by (λ b. b == 10) bytes

-- The tokens of a text, but for END, or its first fault. What a piece adds (`step`) depends on the blocks and brackets
-- that are open where it stands, and on what stands before it on its line; so the rule of tokens is a fold over the
-- pieces into which the text is cut, and is stated as one.
abbrev pub tokens_of : List ℕ → Result (List Token) PyFault
tokens_of bytes = layout (end_line bytes) (cut 0 (record { line = 0; column = 0 }) bytes) start

-- What a function returned is what the definition gives, unless memory ran out.
abbrev pub Does : {A B : Type 0} → Result A PyFault → Result B PyFault → B → Type 0
Does (Ok x) r after = r ≡ Ok after
Does (Err fault.NoMemory) r after = Unit {0}
Does (Err e) r after = r ≡ Err e

-- The same, of a function that returns what the definition gives.
abbrev pub Reads : {A : Type 0} → Result A PyFault → Result A PyFault → Type 0
Reads (Ok x) r = r ≡ Ok x
Reads (Err fault.NoMemory) r = Unit {0}
Reads (Err e) r = r ≡ Err e
