-- What the tokens of a text tell of its value.
use Rattle.std.proofs.Common.{◌≡◌, ℕ, zero, suc, List, [], ◌∷◌, length, Bool, true, false, ◌&&◌, Option, Some, None, option_map, option_and_then, cond, refl, sym, ap, ◌∙◌}
use Rattle.std.specs.Prelude.{⊤, is_some}
use Rattle.std.specs.Str.{IsUtf8, is_utf8}
use Rattle.std.proofs.lemmas.Bool.{true≢false, false≢true}
use Rattle.std.proofs.lemmas.Str.{IsUtf8-from_is_utf8, is_utf8-from_IsUtf8}
use Rattle.json.specs.Token.{Token}
use Rattle.json.specs.Lex.{tokens}
use Rattle.json.specs.Json as json
use Rattle.json.specs.Json.{Json, Parse, parse_map, if_last, items, members, value_with, value}
use Rattle.serde_json.specs.Data.{Data, Num, Items, number, array}
use Rattle.serde_json.specs.Find.{as_object}
use Rattle.serde_json.specs.Read.{number_of, of_json, of_items, max_depth, read}
use Rattle.json_values.specs.Text.{json_of, IsOther}
use Rattle.json_values.specs.Checks.{Tells, opens_object, one_value}
use Rattle.json_values.specs.declared.checking.Shape.{Shape}
use Rattle.json_values.specs.declared.checking.Shape.TheVariants.{NoJson, NoObject, MayBeObject}
use Rattle.json_values.proofs.Fitting.{fits, is_some-of_json, all_fit, Agrees, Agrees-value}

-- ---- a value that no object begins is none

abbrev is_object : Json → Bool
is_object json.null = false
is_object (json.boolean b) = false
is_object (json.number s) = false
is_object (json.string s) = false
is_object (json.array js) = false
is_object (json.object ms) = true

abbrev Plain : Option (Json × List Token) → Type 0
Plain None = ⊤
Plain (Some p) = is_object p.0 ≡ false

plain_array : (o : Option (json.Items × List Token)) → Plain (parse_map json.array o)
plain_array None = tt
plain_array (Some p) = refl

plain_with : (a : Parse json.Items) (o : Parse json.Members) (ts : List Token) → opens_object ts ≡ false → Plain (value_with a o ts)
plain_with a o [] e = tt
plain_with a o (Token.begin_object ∷ ts) e = absurd (true≢false e)
plain_with a o (Token.end_object ∷ ts) e = tt
plain_with a o (Token.begin_array ∷ ts) e = plain_array (a ts)
plain_with a o (Token.end_array ∷ ts) e = tt
plain_with a o (Token.key s ∷ ts) e = tt
plain_with a o (Token.string s ∷ ts) e = refl
plain_with a o (Token.number s ∷ ts) e = refl
plain_with a o (Token.boolean b ∷ ts) e = refl
plain_with a o (Token.null ∷ ts) e = refl
plain_with a o (Token.bad ∷ ts) e = tt

plain_value : (d : ℕ) (ts : List Token) → opens_object ts ≡ false → Plain (value d ts)
unfolding value
plain_value zero = plain_with (λ ts. None) (λ ts. None)
plain_value (suc d) = plain_with (λ ts. items (value d) (length ts) ts) (λ ts. members (value d) (length ts) ts)

number_alone : (o : Option Num) → option_and_then as_object (option_map number o) ≡ None
number_alone None = refl
number_alone (Some n) = refl

array_alone : (o : Option Items) → option_and_then as_object (option_map array o) ≡ None
array_alone None = refl
array_alone (Some ds) = refl

no_members_of : (j : Json) → is_object j ≡ false → option_and_then as_object (of_json j) ≡ None
no_members_of json.null e = refl
no_members_of (json.boolean b) e = refl
no_members_of (json.number s) e = number_alone (number_of s)
no_members_of (json.string s) e = refl
no_members_of (json.array js) e = array_alone (of_items js)
no_members_of (json.object ms) e = absurd (true≢false e)

-- ---- one value and no more

abbrev last : Option (Json × List Token) → Option Json
last o = option_and_then (λ p. if_last p.0 p.1) o

whole_plain : (o : Option (Json × List Token)) → Plain o → option_and_then as_object (option_and_then of_json (last o)) ≡ None
whole_plain None x = refl
whole_plain (Some (j, [])) x = no_members_of j x
whole_plain (Some (j, t ∷ ts)) x = refl

and_true : (b : Bool) → (b && true) ≡ b
and_true true = refl
and_true false = refl

whole_fits : (o : Option (Json × List Token)) (b : Bool) → Agrees fits b o → is_some (last o) ≡ true → is_some (option_and_then of_json (last o)) ≡ b
whole_fits None b x e = absurd (false≢true e)
whole_fits (Some (j, [])) b x e = is_some-of_json j ∙ sym (and_true (fits j)) ∙ sym x
whole_fits (Some (j, t ∷ ts)) b x e = absurd (false≢true e)

pub none_from : {A : Type 0} (o : Option A) → is_some o ≡ false → o ≡ None
none_from None e = refl
none_from (Some a) e = absurd (true≢false e)

other_from : (o : Option Data) → is_some o ≡ true → option_and_then as_object o ≡ None → IsOther o
other_from None e n = absurd (false≢true e)
other_from (Some d) e n = (d, refl, n)

-- ---- a text

-- tokens that are no one value have no data
pub read-no_value : (text : List ℕ) → is_some (one_value (tokens text)) ≡ false → read text ≡ None
read-no_value text e = ap (option_and_then of_json) (none_from (one_value (tokens text)) e)

-- nor do those with a number out of range
pub read-no_range : (text : List ℕ) → is_some (one_value (tokens text)) ≡ true → all_fit (tokens text) ≡ false → read text ≡ None
read-no_range text e f = none_from (read text) (whole_fits (value max_depth (tokens text)) (all_fit (tokens text)) (Agrees-value max_depth (tokens text)) e ∙ f)

-- one value that no object begins, with each number in range, is other JSON
pub read-other : (text : List ℕ) → opens_object (tokens text) ≡ false → is_some (one_value (tokens text)) ≡ true → all_fit (tokens text) ≡ true → IsOther (read text)
read-other text o e f =
    let ts = tokens text in
    other_from (read text) (whole_fits (value max_depth ts) (all_fit ts) (Agrees-value max_depth ts) e ∙ f) (whole_plain (value max_depth ts) (plain_value max_depth ts o))

pub ruleset texts = (read-no_value, read-no_range, read-other)

-- ---- bytes

pub Tells-utf8 : (s : Shape) (bytes : List ℕ) → IsUtf8 bytes → Tells s (read bytes) → Tells s (json_of bytes)
Tells-utf8 NoJson bytes u h = ap (λ b. cond b (read bytes) None) (is_utf8-from_IsUtf8 bytes u) ∙ h
Tells-utf8 NoObject bytes u h = (h.0, ap (λ b. cond b (read bytes) None) (is_utf8-from_IsUtf8 bytes u) ∙ h.1, h.2)
Tells-utf8 MayBeObject bytes u h = tt

pub json_of-no_utf8 : (bytes : List ℕ) → ¬ IsUtf8 bytes → json_of bytes ≡ None
json_of-no_utf8 bytes h = by (is_utf8 bytes) refl
  where
    by : (b : Bool) → is_utf8 bytes ≡ b → json_of bytes ≡ None
    by true e = absurd (h (IsUtf8-from_is_utf8 bytes e))
    by false e = ap (λ b. cond b (read bytes) None) e

pub ruleset shapes = (Tells-utf8, json_of-no_utf8)
