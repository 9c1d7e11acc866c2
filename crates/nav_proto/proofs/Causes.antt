-- What the fault of a line is of a definition.
use Rattle.std.proofs.Common.{◌≡◌, ◌≢◌, Result, Err, refl}
use Rattle.nav_proto.specs.declared.proto_fault.ProtoFault.{ProtoFault}
use Rattle.nav_proto.specs.declared.proto_fault.ProtoFault.TheVariants.{BadJson, BadRequest, NoMemory}
use Rattle.nav_proto.specs.Answers.{Fails}

-- a fault but want of memory is that of the definition
pub fails_is : {Y : Type 0} (e : ProtoFault) (defined : Result Y ProtoFault) → Fails e defined → e ≢ NoMemory → defined ≡ Err e
fails_is NoMemory defined h some = absurd (some refl)
fails_is BadJson defined h some = h
fails_is (BadRequest name) defined h some = h

pub ruleset causes = (fails_is)
