-- Where the first fault of a list of tokens stands.
use Rattle.std.specs.Prelude.{◌≡◌, ℕ, List, [], ◌∷◌, ◌++◌, Result, Ok, Err}
use Rattle.py_subset.specs.declared.token.Token.{Token}
use Rattle.py_subset.specs.declared.token.PyFault.{PyFault}
use Rattle.py_subset.specs.declared.token.PyFault.TheVariants as fault
use Rattle.py_subset.specs.declared.tree.Module.{Module}
use Rattle.py_subset.specs.Layout.{tokens_of, end_line}
use Rattle.py_subset.specs.Grammar.{Derives}
use Rattle.py_subset.specs.Refusals.{refusal}

-- A module begins with these tokens.
abbrev pub BeginsModule : List Token → Type 0
BeginsModule ts = (more : List Token) × (whole : Module) × Derives (ts ++ more) whole

-- No module begins with the tokens before and the next one. Where none is left, that is END.
abbrev pub IsRefused : List Token → List Token → Type 0
IsRefused before [] = (whole : Module) → Derives before whole → ⊥
IsRefused before (t ∷ ts) = BeginsModule (before ++ t ∷ []) → ⊥

-- The fault stands at the first token such that no module begins with the tokens up to and including it. The
-- number is END's line.
abbrev pub IsFirstFault : ℕ → List Token → PyFault → Type 0
IsFirstFault end ts why =
    (before : List Token) × (after : List Token) × (ts ≡ before ++ after) × BeginsModule before
    × IsRefused before after × (why ≡ refusal end after)

-- A fault of a text whose tokens have none is the first one of its tokens, unless memory ran out.
abbrev pub TellsFirst : List ℕ → Result Module PyFault → Type 0
TellsFirst text (Ok whole) = Unit {0}
TellsFirst text (Err fault.NoMemory) = Unit {0}
TellsFirst text (Err why) =
    (ts : List Token) → tokens_of text ≡ Ok ts → IsFirstFault (end_line text) ts why
