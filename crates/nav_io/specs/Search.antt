-- What the search for a newline answers. No public clause cites it.
use Rattle.std.specs.Prelude.{◌≡◌, ◌<◌, ℕ, List, length, Option, MatchOption}
use Rattle.nav_io.specs.Lines.{line_len}

-- the place of the first newline, or nothing where there is none
abbrev pub FindsNewline : Option ℕ → List ℕ → Type 0
FindsNewline found bytes =
    MatchOption found (line_len bytes ≡ length bytes)
    (λ n. (line_len bytes ≡ n) × (n < length bytes))
