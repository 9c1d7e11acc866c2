-- Which command the words after the program's name are.
use Rattle.std.specs.Prelude.{ℕ, ◌+◌, ◌-◌, ◌*◌, ◌==◌, ◌&&◌, nat_le, List, [], ◌∷◌, Option, Some, None, Result, Ok, Err, if◌then◌else◌, codes, map}
use Rattle.std.specs.Option.{option_and_then}
use Rattle.std.specs.Str.{bytes_eq}
use Rattle.std.specs.Prelude.{String}
use Rattle.std.specs.Global.{Global, Vec}
use Rattle.std.specs.String.{string_bytes}
use Rattle.nav_serve.specs.declared.words.Command.{Command}
use Rattle.nav_serve.specs.declared.words.Command.TheVariants.{Once, Upgrade, Run, Lsp, Demo, Serve}

-- the command that one word is
abbrev pub command_named : List ℕ → Option Command
command_named word =
    if bytes_eq word (codes "once") then Some Once
    else if bytes_eq word (codes "upgrade") then Some Upgrade
    else if bytes_eq word (codes "run") then Some Run
    else if bytes_eq word (codes "lsp") then Some Lsp
    else None

-- the number that a decimal digit spells behind n; None where the byte is no digit, or where it is above 2^32 - 1
abbrev pub with_digit : ℕ → ℕ → Option ℕ
with_digit n byte =
    if nat_le 48 byte && nat_le byte 57 && nat_le (n * 10 + (byte - 48)) 4294967295
    then Some (n * 10 + (byte - 48)) else None

-- the number that decimal digits spell behind n
abbrev pub spelled : ℕ → List ℕ → Option ℕ
spelled n [] = Some n
spelled n (byte ∷ bytes) = option_and_then (λ m. spelled m bytes) (with_digit n byte)

-- the number that a word is: decimal digits without a sign, and without a zero in front but `0` itself
abbrev pub zero_alone : List ℕ → Option ℕ
zero_alone [] = Some 0
zero_alone (byte ∷ bytes) = None

-- the number of the word, if it has that form
abbrev pub number_of : List ℕ → Option ℕ
number_of [] = None
number_of (byte ∷ bytes) = if byte == 48 then zero_alone bytes else spelled 0 (byte ∷ bytes)

-- the demonstration of so many files, 1 to 2,048, from this start
abbrev pub demo_of : Option ℕ → Option ℕ → Option Command
demo_of None start = None
demo_of (Some files) None = None
demo_of (Some files) (Some start) =
    if nat_le 1 files && nat_le files 2048 then Some (Demo files start) else None

-- serving at this port, 1 to 65,535, by so many doors, 1 to 32, each for so many connections, 1 to 1,000
abbrev pub serve_of : Option ℕ → Option ℕ → Option ℕ → Option Command
serve_of None doors connections = None
serve_of (Some port) None connections = None
serve_of (Some port) (Some doors) None = None
serve_of (Some port) (Some doors) (Some connections) =
    if nat_le 1 port && nat_le port 65535 && nat_le 1 doors && nat_le doors 32
    && nat_le 1 connections && nat_le connections 1000
    then Some (Serve port doors connections) else None

-- the command that the words are: `demo` with two numbers, `serve` with three, and else one word alone
abbrev pub command_of : List (List ℕ) → Option Command
command_of [] = None
command_of (word ∷ []) = command_named word
command_of (word ∷ files ∷ []) = None
command_of (word ∷ files ∷ start ∷ []) =
    if bytes_eq word (codes "demo") then demo_of (number_of files) (number_of start) else None
command_of (word ∷ port ∷ doors ∷ connections ∷ []) =
    if bytes_eq word (codes "serve")
    then serve_of (number_of port) (number_of doors) (number_of connections) else None
command_of (word ∷ port ∷ doors ∷ connections ∷ more ∷ words) = None

-- the texts of the words
abbrev pub texts : List (String Global) → List (List ℕ)
texts words = map string_bytes words

-- the command that the words are, where they can be had; none where they can't
abbrev pub command_in : {E : Type 0} → Result (Vec (String Global)) E → Option Command
command_in (Ok words) = command_of (texts words.items)
command_in (Err error) = None
