-- What a text is read as: its module or its fault, by the grammar and the rule of the first fault alone.
use Rattle.std.specs.Prelude.{◌≡◌, ◌⊎◌, ◌↔◌, ℕ, List, Result, Ok, Err}
use Rattle.py_subset.specs.declared.token.Token.{Token}
use Rattle.py_subset.specs.declared.token.PyFault.{PyFault}
use Rattle.py_subset.specs.declared.token.PyFault.TheVariants as fault
use Rattle.py_subset.specs.declared.tree.Module.{Module}
use Rattle.py_subset.specs.Layout.{tokens_of, end_line}
use Rattle.py_subset.specs.Correct.{IsModule}
use Rattle.py_subset.specs.FirstFault.{IsFirstFault}
use Rattle.py_subset.specs.Whole.{parse_of}

-- The fault is that of the text's tokens; or they have none, and it is the first one of the grammar.
abbrev pub HasFault : List ℕ → PyFault → Type 0
HasFault text why =
    (tokens_of text ≡ Err why)
    ⊎ ((ts : List Token) × (tokens_of text ≡ Ok ts) × IsFirstFault (end_line text) ts why)

-- The text is read as this module, or as this fault.
abbrev pub IsRead : List ℕ → Result Module PyFault → Type 0
IsRead text (Ok whole) = IsModule text whole
IsRead text (Err why) = HasFault text why

-- An answer is what the text is read as, unless memory ran out.
abbrev pub Answers : List ℕ → Result Module PyFault → Type 0
Answers text (Ok whole) = IsRead text (Ok whole)
Answers text (Err fault.NoMemory) = Unit {0}
Answers text (Err why) = IsRead text (Err why)

-- A text is read as one thing alone.
abbrev pub TextsAreReadOnce : Type 0
TextsAreReadOnce =
    (text : List ℕ) (r s : Result Module PyFault) → IsRead text r → IsRead text s → r ≡ s

-- What a text is read as is what the reading with one token of lookahead gives. So each text is read as something.
abbrev pub LookaheadReadsTexts : Type 0
LookaheadReadsTexts =
    (text : List ℕ) (r : Result Module PyFault) → IsRead text r ↔ (parse_of text ≡ r)
