-- The command line as `clap` reads it, and what its matches say.
use Rattle.std.specs.Prelude.{ℕ, ◌==◌, Bool, true, false, List, [], ◌∷◌, Option, Some, None, if◌then◌else◌, codes, option_and_then}
use Rattle.std.specs.Str.{bytes_eq}
use Rattle.clap.specs.Words.{App, Row, Rule, Text, first_of, new_app, new_rule, with_rule, with_subcommand}
use Rattle.nav_serve.specs.declared.words.Command.{Command}
use Rattle.nav_serve.specs.Words.{command_named, number_of, demo_of, serve_of}

-- a word that has to stand there
abbrev pub wanted : Text → Rule
wanted id = record (new_rule id) { required = true }

-- a command with no words behind it
abbrev pub alone : Text → App
alone name = new_app name

-- a command with a word more behind it
abbrev pub and_word : App → Text → App
and_word app id = with_rule app (wanted id)

-- `demo` and its two words, and `serve` and its three
abbrev pub demo_line : App
demo_line = and_word (and_word (alone (codes "demo")) (codes "files")) (codes "start")

abbrev pub serve_line : App
serve_line =
    and_word (and_word (and_word (alone (codes "serve")) (codes "port")) (codes "doors"))
    (codes "connections")

-- the program with no command yet: its words begin with the command, one is wanted, and there are no flags
abbrev pub program : App
program = record (new_app (codes "navd")) {
  top = record (new_app (codes "navd")).top {
    no_binary_name = true;
    disable_help_flag = true;
    disable_help_subcommand = true;
    subcommand_required = true;
  };
}

-- the program with one command more
abbrev pub and_command : App → App → App
and_command app sub = with_subcommand app sub.top

-- the whole command line: one of six commands
abbrev pub command_line : App
command_line =
    and_command (and_command (and_command (and_command (and_command (and_command program
    (alone (codes "once"))) (alone (codes "upgrade"))) (alone (codes "run")))
    (alone (codes "lsp"))) demo_line) serve_line

-- whether a word begins with a hyphen
abbrev pub has_hyphen : Text → Bool
has_hyphen [] = false
has_hyphen (byte ∷ bytes) = byte == 45

-- the number that stands for this word
abbrev pub number_at : Text → List Row → Option ℕ
number_at id rows = option_and_then number_of (first_of id rows)

-- the command that a subcommand and its matches are
abbrev pub chosen : Text → List Row → Option Command
chosen name rows =
    if bytes_eq name (codes "demo")
    then demo_of (number_at (codes "files") rows) (number_at (codes "start") rows)
    else if bytes_eq name (codes "serve")
    then serve_of (number_at (codes "port") rows) (number_at (codes "doors") rows)
    (number_at (codes "connections") rows)
    else command_named name

-- the same, where there is a subcommand
abbrev pub chosen_of : Option (Text × List Row) → Option Command
chosen_of None = None
chosen_of (Some found) = chosen found.0 found.1
