-- What the members of a message are.
use Rattle.std.specs.Prelude.{ℕ, ℤ, pos, negsuc, Bool, nat_lt, List, if◌then◌else◌, Option, None, Some, option_and_then, option_map, codes}
use Rattle.std.specs.Option.{option_or}
use Rattle.serde_json.specs.Data.{Data}
use Rattle.serde_json.specs.Find.{get, as_number, as_i64, as_str}
use Rattle.json_values.specs.Numbers.{u32_of}
use Rattle.lsp_wire.specs.declared.message.Id.{Id}
use Rattle.lsp_wire.specs.declared.message.Id.TheVariants.{Text, Number}
use Rattle.lsp_wire.specs.declared.message.Position.{Position}

-- first the one, and then what follows from its value, where there is one
infixl 10 ◌>>=◌
abbrev pub ◌>>=◌ : {A B : Type 0} → Option A → (A → Option B) → Option B
o >>= f = option_and_then f o

-- what the member of that name is, where the value is an object that has one of which it is read
abbrev pub member : {A : Type 0} → List ℕ → (Data → Option A) → Data → Option A
member name read d = option_and_then read (get name d)

-- a whole number of 32 bits with a sign, written without a fraction or an exponent
abbrev pub has_32_bits : ℤ → Bool
has_32_bits (pos n) = nat_lt n 2147483648
has_32_bits (negsuc n) = nat_lt n 2147483648

-- the number of a value, where it is such a one
abbrev pub i32_of : Data → Option ℤ
i32_of d =
    option_and_then (λ z. if has_32_bits z then Some z else None)
    (option_and_then as_i64 (as_number d))

-- the id of a message: a text, or such a number
abbrev pub id_of : Data → Option Id
id_of d = option_or (option_map Text (as_str d)) (option_map Number (i32_of d))

-- where in a text: a line and a character, whole numbers of 32 bits from 0
unfoldable pub position_of : Data → Option Position
position_of d = do
  line ← member (codes "line") u32_of d
  character ← member (codes "character") u32_of d
  Some (record { line = line; character = character })

-- the URI of the document that the parameters name
abbrev pub uri_in : Data → Option (List ℕ)
uri_in params = member (codes "textDocument") (member (codes "uri") as_str) params
