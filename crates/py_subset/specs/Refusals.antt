-- Which fault a refused token is.
use Rattle.std.specs.Prelude.{ℕ, Bool, true, false, if◌then◌else◌, List, [], ◌∷◌}
use Rattle.py_subset.specs.declared.token.Token.{Token}
use Rattle.py_subset.specs.declared.token.Mark.{Mark}
use Rattle.py_subset.specs.declared.token.Mark.TheVariants as m
use Rattle.py_subset.specs.declared.token.PyFault.{PyFault}
use Rattle.py_subset.specs.declared.token.PyFault.TheVariants as fault
use Rattle.py_subset.specs.Language.{next}

-- the refused tokens that stand for a form of Python that is left out
abbrev pub is_unsupported : Mark → Bool
is_unsupported m.Foreign = true
is_unsupported m.For = true
is_unsupported m.If = true
is_unsupported m.Star = true
is_unsupported m.Power = true
is_unsupported m.Assign = true
is_unsupported m.Colon = true
is_unsupported m.OpenSquare = true
is_unsupported m.OpenCurly = true
is_unsupported m.Dot = true
is_unsupported _ = false

-- the line of the next token, or of the text's end
abbrev pub line_or : ℕ → List Token → ℕ
line_or end [] = end
line_or end (t ∷ ts) = t.word.line

-- the fault at the first of these tokens, or at the text's end
abbrev pub refusal : ℕ → List Token → PyFault
refusal end ts =
    if is_unsupported (next ts) then fault.Unsupported (line_or end ts)
    else fault.Expected (line_or end ts)
