-- What a fault that names a field is of a definition.
use Rattle.std.proofs.Common.{◌≡◌, ℕ, List, Result, Err, ap, sym, ◌∙◌}
use Rattle.nav_proto.specs.declared.proto_fault.ProtoFault.{ProtoFault}
use Rattle.nav_proto.specs.declared.proto_fault.ProtoFault.TheVariants.{BadJson, BadRequest, NoMemory}
use Rattle.nav_proto.specs.Answers.{LineGives, Names}

pub gives-named : {X : Type 0} (name : List ℕ) (e : ProtoFault) (defined : Result X ProtoFault) → Names name e → defined ≡ Err (BadRequest name) → LineGives (Err e) defined
gives-named name BadJson defined n d = absurd n
gives-named name (BadRequest f) defined n d = d ∙ ap (λ g. Err (BadRequest g)) (sym n)
gives-named name NoMemory defined n d = tt

pub ruleset named = (gives-named)
