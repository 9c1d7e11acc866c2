-- The statuses with which the program ends, by name.
use Rattle.std.specs.Prelude.{ℕ}

-- all that was asked for is done
abbrev pub done : ℕ
done = 0

-- the editor left without `shutdown`
abbrev pub not_shut_down : ℕ
not_shut_down = 1

-- the words are no command
abbrev pub bad_words : ℕ
bad_words = 2

-- the source failed
abbrev pub source_failed : ℕ
source_failed = 3

-- the sink failed
abbrev pub sink_failed : ℕ
sink_failed = 4

-- memory was refused
abbrev pub no_memory : ℕ
no_memory = 5

-- a line or a message is longer than one may be
abbrev pub too_long : ℕ
too_long = 6

-- as many lines or messages were answered as may be, and more stand behind them
abbrev pub too_many : ℕ
too_many = 7

-- the house gave out no doors, or one of them failed
abbrev pub house_failed : ℕ
house_failed = 8

-- the input isn't cut into messages
abbrev pub not_cut : ℕ
not_cut = 9
