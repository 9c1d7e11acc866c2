-- What the words behind the name of the program for many clients say.
use Rattle.std.specs.Prelude.{ℕ, ◌+◌, ◌-◌, ◌*◌, ◌==◌, ◌&&◌, nat_le, List, [], ◌∷◌, map, Option, Some, None, if◌then◌else◌, String}
use Rattle.std.specs.Option.{option_and_then}
use Rattle.std.specs.Global.{Global}
use Rattle.std.specs.String.{string_bytes}
use Rattle.poll_many.specs.declared.words.Wanted.{Wanted}

-- the number that a decimal digit makes behind these; none where the byte is no digit, or more than nine stand there
abbrev pub behind : ℕ → ℕ → Option ℕ
behind n byte = if nat_le 48 byte && nat_le byte 57 && nat_le n 99999999 then Some (n * 10 + (byte - 48)) else None

-- the number that digits make behind these
abbrev pub all_behind : ℕ → List ℕ → Option ℕ
all_behind n [] = Some n
all_behind n (byte ∷ bytes) = option_and_then (λ m. all_behind m bytes) (behind n byte)

-- the number that a word is, 1 to 999,999,999: decimal digits, the first of which isn't zero
abbrev pub number_of : List ℕ → Option ℕ
number_of [] = None
number_of (byte ∷ bytes) = if byte == 48 then None else all_behind 0 (byte ∷ bytes)

-- a port, 1 to 65,535, connections, 1 to 1,000,000, and seats, 1 to 32
abbrev pub in_range : ℕ → ℕ → ℕ → Option Wanted
in_range port connections seats =
    if nat_le port 65535 && nat_le connections 1000000 && nat_le seats 32 && nat_le 1 seats && nat_le 1 port
    then Some (record { port = port; connections = connections; seats = seats }) else None

-- the three numbers, where all are there
abbrev pub wanted_of : Option ℕ → Option ℕ → Option ℕ → Option Wanted
wanted_of None connections seats = None
wanted_of (Some port) None seats = None
wanted_of (Some port) (Some connections) None = None
wanted_of (Some port) (Some connections) (Some seats) = in_range port connections seats

-- what the words ask for: a port, connections and seats; none where they are no such words
abbrev pub wanted_by : List (List ℕ) → Option Wanted
wanted_by [] = None
wanted_by (port ∷ []) = None
wanted_by (port ∷ connections ∷ []) = None
wanted_by (port ∷ connections ∷ seats ∷ []) = wanted_of (number_of port) (number_of connections) (number_of seats)
wanted_by (port ∷ connections ∷ seats ∷ more ∷ words) = None

-- the texts of the words
abbrev pub texts : List (String Global) → List (List ℕ)
texts words = map string_bytes words
