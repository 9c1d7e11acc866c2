-- What a call answers, beside what is defined: the value, or the first fault.
use Rattle.std.specs.Prelude.{◌≡◌, ℕ, List, Result, Ok, Err}
use Rattle.nav_proto.specs.declared.proto_fault.ProtoFault.{ProtoFault}
use Rattle.nav_proto.specs.declared.proto_fault.ProtoFault.TheVariants.{BadJson, BadRequest, NoMemory}

-- the fault that a call answered is that of the definition; want of memory is free
abbrev pub Fails : {X : Type 0} → ProtoFault → Result X ProtoFault → Type 0
Fails NoMemory defined = Unit {0}
Fails BadJson defined = defined ≡ Err BadJson
Fails (BadRequest name) defined = defined ≡ Err (BadRequest name)

-- a call answered what is defined
abbrev pub LineGives : {X : Type 0} → Result X ProtoFault → Result X ProtoFault → Type 0
LineGives (Ok x) defined = defined ≡ Ok x
LineGives (Err e) defined = Fails e defined

-- the same where the answer is seen by a view
abbrev pub Shows : {X Y : Type 0} → (X → Y) → Result X ProtoFault → Result Y ProtoFault → Type 0
Shows view (Ok x) defined = defined ≡ Ok (view x)
Shows view (Err e) defined = Fails e defined

-- a fault that names this field, or want of memory
abbrev pub Names : List ℕ → ProtoFault → Type 0
Names name NoMemory = Unit {0}
Names name BadJson = ⊥
Names name (BadRequest f) = f ≡ name
