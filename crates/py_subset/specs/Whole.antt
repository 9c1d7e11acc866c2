-- A text and its module, or its first fault, as they are read with one token of lookahead.
use Rattle.std.specs.Prelude.{ℕ, ◌+◌, List, [], ◌∷◌, length, Result, Ok, Err}
use Rattle.py_subset.specs.declared.token.PyFault.{PyFault}
use Rattle.py_subset.specs.declared.tree.Stmt.{Stmt}
use Rattle.py_subset.specs.declared.tree.Module.{Module}
use Rattle.py_subset.specs.Layout.{tokens_of, end_line, ◌>>=◌}
use Rattle.py_subset.specs.Parsers.{Reply}
use Rattle.py_subset.specs.Refusals.{refusal}
use Rattle.py_subset.specs.Statements.{module_of}

-- A module takes all tokens.
abbrev pub whole : ℕ → Reply (List Stmt) → Result Module PyFault
whole end (Ok (body, [])) = Ok (record { body = body })
whole end (Ok (body, t ∷ ts)) = Err (refusal end (t ∷ ts))
whole end (Err ts) = Err (refusal end ts)

-- the module of a text, or its first fault: of the tokens, and then of the grammar
unfoldable pub parse_of : List ℕ → Result Module PyFault
parse_of text =
    tokens_of text >>= λ ts. whole (end_line text) (module_of (length ts + 1) (length ts + 1) ts)
