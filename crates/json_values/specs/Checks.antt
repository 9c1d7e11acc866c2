-- What is told of a text by its tokens, with no value of it; no public clause cites it.
use Rattle.std.specs.Prelude.{◌≡◌, List, [], ◌∷◌, Bool, true, false, is_some, Option, None, option_and_then}
use Rattle.json.specs.Token.{Token}
use Rattle.json.specs.Json.{Json, value, if_last}
use Rattle.serde_json.specs.Data.{Data}
use Rattle.serde_json.specs.Read.{number_of, max_depth}
use Rattle.json_values.specs.Text.{IsOther}
use Rattle.json_values.specs.declared.checking.Shape.{Shape}
use Rattle.json_values.specs.declared.checking.Shape.TheVariants.{NoJson, NoObject, MayBeObject}

-- what the shape of bytes tells of their value
abbrev pub Tells : Shape → Option Data → Type 0
Tells NoJson value = value ≡ None
Tells NoObject value = IsOther value
Tells MayBeObject value = Unit {0}

-- an object begins first
abbrev pub opens_object : List Token → Bool
opens_object [] = false
opens_object (Token.begin_object ∷ ts) = true
opens_object (Token.end_object ∷ ts) = false
opens_object (Token.begin_array ∷ ts) = false
opens_object (Token.end_array ∷ ts) = false
opens_object (Token.key s ∷ ts) = false
opens_object (Token.string s ∷ ts) = false
opens_object (Token.number s ∷ ts) = false
opens_object (Token.boolean b ∷ ts) = false
opens_object (Token.null ∷ ts) = false
opens_object (Token.bad ∷ ts) = false

-- the one value that the tokens are, whatever its numbers
abbrev pub one_value : List Token → Option Json
one_value ts = option_and_then (λ p. if_last p.0 p.1) (value max_depth ts)

-- the token is a number in range, or no number
abbrev pub token_fits : Token → Bool
token_fits Token.begin_object = true
token_fits Token.end_object = true
token_fits Token.begin_array = true
token_fits Token.end_array = true
token_fits (Token.key s) = true
token_fits (Token.string s) = true
token_fits (Token.number s) = is_some (number_of s)
token_fits (Token.boolean b) = true
token_fits Token.null = true
token_fits Token.bad = true
