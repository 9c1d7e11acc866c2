-- What a write of a whole text leaves in a sink, and which of its errors comes from which of the sink's.
use Rattle.std.specs.Prelude.{◌≡◌, ℕ, List, ◌++◌, Option}
use Rattle.std.specs.Io.KnownBytes.{append_known}
use Rattle.nav_io.specs.declared.sink.SinkError.{SinkError}
use Rattle.nav_io.specs.declared.sink.SinkError.TheVariants.{Failed, NoMemory as sink_memory}
use Rattle.nav_io.specs.declared.write.WriteError.{WriteError}
use Rattle.nav_io.specs.declared.write.WriteError.TheVariants.{WriteFault, NoMemory}

-- the error of `write_all` after an error of the sink
abbrev pub write_error_of : SinkError → WriteError
write_error_of Failed = WriteFault
write_error_of sink_memory = NoMemory

-- the sink holds what it held, and then a prefix of the text
abbrev pub HoldsPrefix : Option (List ℕ) → List ℕ → Option (List ℕ) → Type 0
HoldsPrefix old text new =
    (done : List ℕ) × (rest : List ℕ) × (text ≡ done ++ rest) × (new ≡ append_known old done)
