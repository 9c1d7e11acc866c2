-- Which member of a request is wrong first, and which it may not have.
use Rattle.std.specs.Prelude.{ℕ, List, Option, Some, None, option_map, option_and_then, Result, Ok, Err, ok_or}
use Rattle.serde_json.specs.Data.{Data}
use Rattle.serde_json.specs.Find.{get}
use Rattle.json_values.specs.Members.{is_among, other_in}
use Rattle.nav_proto.specs.declared.proto_fault.ProtoFault.{ProtoFault}
use Rattle.nav_proto.specs.declared.proto_fault.ProtoFault.TheVariants.{BadRequest}

-- first the one, and then what follows from its value; the first fault ends it
infixl 10 ◌>>=◌
abbrev pub ◌>>=◌ : {A B : Type 0} → Result A ProtoFault → (A → Result B ProtoFault)
    → Result B ProtoFault
(Ok x) >>= f = f x
(Err e) >>= f = Err e

-- what the member of that name is, or the fault that names it where it is missing or isn't read
abbrev pub field : {A : Type 0} → List ℕ → (Data → Option A) → Data → Result A ProtoFault
field name read d = ok_or (option_and_then read (get name d)) (BadRequest name)

-- the same for a member that may be absent, which then stands for a default
abbrev pub read_or : {A : Type 0} → (Data → Option A) → A → Option Data → Option A
read_or read default None = Some default
read_or read default (Some d) = read d

-- what the member that may be absent is, or the fault that names it where it isn't read
abbrev pub optional_field : {A : Type 0} → List ℕ → (Data → Option A) → A → Data
    → Result A ProtoFault
optional_field name read default d = ok_or (read_or read default (get name d)) (BadRequest name)

-- the value, unless there is a fault
abbrev pub unless : {A : Type 0} → Option ProtoFault → A → Result A ProtoFault
unless None x = Ok x
unless (Some fault) x = Err fault

-- the value, where the object has no member but these
abbrev pub with_only : {A : Type 0} → List (List ℕ) → Data → A → Result A ProtoFault
with_only names d x = unless (option_map BadRequest (other_in (is_among names) d)) x
