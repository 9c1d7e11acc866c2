use Rattle.std.proofs.Common.{codes}
use Rattle.std.proofs.lemmas.Result.{IfOk-weaker}
use Rattle.clap.specs.Words.{App}
use Rattle.nav_serve.specs.CommandLine.{alone, and_command, program, demo_line, serve_line}
use Rattle.nav_serve.proofs.Builders.{IsLine, is_program, with_command}
use Rattle.nav_serve.proofs.parser.command_line.Goals as goal

abbrev with_once : App
with_once = and_command program (alone (codes "once"))

abbrev with_upgrade : App
with_upgrade = and_command with_once (alone (codes "upgrade"))

abbrev with_run : App
with_run = and_command with_upgrade (alone (codes "run"))

abbrev with_lsp : App
with_lsp = and_command with_run (alone (codes "lsp"))

abbrev with_demo : App
with_demo = and_command with_lsp demo_line

pub returns : goal.returns
returns c =
    let line_0 = is_program c.new.result c.no_binary_name.result c.disable_help_flag.result c.disable_help_subcommand.result c.subcommand_required.result
    c.new.ensures.app c.new.ensures.local c.no_binary_name.ensures c.disable_help_flag.ensures c.disable_help_subcommand.ensures c.subcommand_required.ensures in
    let line_1 : IsLine with_once c.in_ok-subcommand.field-0 =
    with_command program (alone (codes "once")) c.subcommand_required.result c.in_ok-subcommand.field-0 c.new-2.result c.in_ok-subcommand.ensures line_0 (c.new-2.ensures.app, c.new-2.ensures.local) in
    let line_2 : IsLine with_upgrade c.in_ok-subcommand-2.field-0 =
    with_command with_once (alone (codes "upgrade")) c.in_ok-subcommand.field-0 c.in_ok-subcommand-2.field-0 c.new-3.result c.in_ok-subcommand-2.ensures line_1 (c.new-3.ensures.app, c.new-3.ensures.local) in
    let line_3 : IsLine with_run c.in_ok-subcommand-3.field-0 =
    with_command with_upgrade (alone (codes "run")) c.in_ok-subcommand-2.field-0 c.in_ok-subcommand-3.field-0 c.new-4.result c.in_ok-subcommand-3.ensures line_2 (c.new-4.ensures.app, c.new-4.ensures.local) in
    let line_4 : IsLine with_lsp c.in_ok-subcommand-4.field-0 =
    with_command with_run (alone (codes "lsp")) c.in_ok-subcommand-3.field-0 c.in_ok-subcommand-4.field-0 c.new-5.result c.in_ok-subcommand-4.ensures line_3 (c.new-5.ensures.app, c.new-5.ensures.local) in
    let line_5 : IsLine with_demo c.in_ok-subcommand-5.field-0 =
    with_command with_lsp demo_line c.in_ok-subcommand-4.field-0 c.in_ok-subcommand-5.field-0 c.in_ok-demo_line.field-0 c.in_ok-subcommand-5.ensures line_4 c.in_ok-demo_line.ensures in
    IfOk-weaker c.subcommand-6.result _ _ (λ line adds.
    (with_command with_demo serve_line c.in_ok-subcommand-5.field-0 line c.in_ok-serve_line.field-0 adds line_5 c.in_ok-serve_line.ensures).0) c.subcommand-6.ensures
