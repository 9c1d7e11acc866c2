-- What the builders of `clap` make of the command line.
use Rattle.std.proofs.Common.{◌≡◌, ◌∙◌, Bool, true, false, ◌||◌, ap, ap₂, codes}
use Rattle.clap.specs.Simple.{Shape, app_of_fields, on_top}
use Rattle.clap.specs.Words.{App, AddsArg, AddsSubcommand, Rule, app_of, rule_of, new_app, with_rule, with_subcommand}
use Rattle.clap.specs.declared.builder.arg.Arg.{Arg}
use Rattle.clap.specs.declared.builder.command.Command.{Command}
use Rattle.clap.specs.declared.builder.command.Command.TheViews.{out-Command}
use Rattle.clap.specs.declared.builder.command.Command.TheOpen.{Command-F}
use Rattle.nav_serve.specs.CommandLine.{program}

-- the command is read so, and none of its arguments goes down to its subcommands
abbrev pub IsLine : App → Command → Type 0
IsLine app command = (app_of command ≡ app) × ((out-Command command).has_globals ≡ false)

pub with_arg : (app : App) (rule : Rule) (old new : Command) (arg : Arg) → AddsArg old arg new → IsLine app old
    → rule_of arg ≡ rule → arg.global ≡ false → IsLine (with_rule app rule) new
with_arg app rule old new arg adds is same local =
    (adds.shape local ∙ ap₂ with_rule is.0 same, adds.globals ∙ ap₂ (λ (a b : Bool). a || b) is.1 local)

pub with_command : (app sub : App) (old new below : Command) → AddsSubcommand old below new → IsLine app old → IsLine sub below
    → IsLine (with_subcommand app sub.top) new
with_command app sub old new below adds is same =
    (adds.shape same.1 ∙ ap₂ with_subcommand is.0 (ap (λ (a : App). a.top) same.0), adds.globals ∙ ap₂ (λ (a b : Bool). a || b) is.1 same.1)

-- the settings of the program
pub is_program : (new own no_flag no_help needs : Command) → app_of new ≡ new_app (codes "navd") → (out-Command new).has_globals ≡ false
    → out-Command own ≡ record (out-Command new) { no_binary_name = true }
    → out-Command no_flag ≡ record (out-Command own) { disable_help_flag = true }
    → out-Command no_help ≡ record (out-Command no_flag) { disable_help_subcommand = true }
    → out-Command needs ≡ record (out-Command no_help) { subcommand_required = true }
    → IsLine program needs
is_program new own no_flag no_help needs is local a b c d = (
  ap app_of_fields d ∙ ap (on_top (λ (s : Shape). record s { subcommand_required = true }))
      (ap app_of_fields c ∙ ap (on_top (λ (s : Shape). record s { disable_help_subcommand = true }))
      (ap app_of_fields b ∙ ap (on_top (λ (s : Shape). record s { disable_help_flag = true }))
      (ap app_of_fields a ∙ ap (on_top (λ (s : Shape). record s { no_binary_name = true })) is))),
  ap (λ (f : Command-F Command). f.has_globals) d ∙ (ap (λ (f : Command-F Command). f.has_globals) c
      ∙ (ap (λ (f : Command-F Command). f.has_globals) b ∙ (ap (λ (f : Command-F Command). f.has_globals) a ∙ local))),
)
