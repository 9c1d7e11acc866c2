use Rattle.std.proofs.Common.{◌≡◌, ◌∙◌, sym, ap, None, Some, option_map}
use Rattle.std.specs.Prelude.{option_and_then}
use Rattle.clap.specs.Words.{first_of, found_of, rows_of}
use Rattle.clap.proofs.WalkLemmas.{first_value-rows}
use Rattle.nav_serve.specs.Words.{number_of}
use Rattle.nav_serve.proofs.words.number_at.Goals as goal

pub returns-in_err-get_str : goal.returns-in_err-get_str
returns-in_err-get_str c =
    let none : first_of c.args.id.now (rows_of (found_of c.args.values.now)) ≡ None =
    sym (first_value-rows (found_of c.args.values.now) c.args.id.now) ∙ sym c.get_str.ensures ∙ ap (option_map (λ s. s.now)) c.in_err-get_str.was in
    c.from_residual.ensures ∙ sym (ap (option_and_then number_of) none)

pub returns : goal.returns
returns c =
    let some : first_of c.args.id.now (rows_of (found_of c.args.values.now)) ≡ Some c.in_ok-get_str.field-0.now =
    sym (first_value-rows (found_of c.args.values.now) c.args.id.now) ∙ sym c.get_str.ensures ∙ ap (option_map (λ s. s.now)) c.in_ok-get_str.was in
    c.number_of.ensures ∙ sym (ap (option_and_then number_of) some)
