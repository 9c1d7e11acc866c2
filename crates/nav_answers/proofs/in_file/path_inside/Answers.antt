use Rattle.std.proofs.Common.{sym, ◌∙◌, ap, None, Some}
use Rattle.std.specs.Prelude.{option_copied}
use Rattle.partial_path.specs.Starts.{rules_at}
use Rattle.root_index.specs.Offers.{files_of}
use Rattle.nav_answers.proofs.Own.{asked_in, none_alone}
use Rattle.nav_answers.proofs.in_file.path_inside.Goals as goal

pub returns-in_err-file : goal.returns-in_err-file
returns-in_err-file c =
    rw c.from_residual.ensures
    (sym (none_alone (files_of c.args.source.now.rows) c.args.node.file c.args.start (option_copied c.args.first) c.args.k c.are_sources.ensures c.requires.alone c.requires.file (sym c.in_err-file.ensures.value)))

pub returns-in_err-path : goal.returns-in_err-path
returns-in_err-path c =
    rw c.from_residual-in_err-path.ensures
    (asked_in (files_of c.args.source.now.rows) c.args.node.file c.in_ok-file.file.now c.args.start (option_copied c.args.first) c.args.k c.paths_from.result None c.are_sources.ensures c.requires.alone c.requires.file
    c.in_ok-file.ensures.value (c.paths_from.ensures.value ∙ ap (λ s. rules_at s c.in_ok-file.file.now.rules) c.inside.ensures) c.in_err-path.ensures)

pub returns : goal.returns
returns c =
    asked_in (files_of c.args.source.now.rows) c.args.node.file c.in_ok-file.file.now c.args.start (option_copied c.args.first) c.args.k c.paths_from.result (Some c.in_ok-path.path) c.are_sources.ensures c.requires.alone c.requires.file
    c.in_ok-file.ensures.value (c.paths_from.ensures.value ∙ ap (λ s. rules_at s c.in_ok-file.file.now.rules) c.inside.ensures) c.in_ok-path.ensures
