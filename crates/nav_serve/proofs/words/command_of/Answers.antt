use Rattle.std.proofs.Common.{◌≡◌, ◌∙◌, sym, false}
use Rattle.std.specs.List.{list_any}
use Rattle.std.specs.String.{string_bytes}
use Rattle.std.proofs.lemmas.Result.{IfOk-weaker}
use Rattle.clap.proofs.WalkLemmas.{list_any-map}
use Rattle.clap.specs.Words.{app_of}
use Rattle.nav_serve.specs.CommandLine.{has_hyphen}
use Rattle.nav_serve.specs.Words.{texts}
use Rattle.nav_serve.proofs.CommandLine.{matches_tell, error_tells}
use Rattle.nav_serve.proofs.Hyphens.{hyphen_none}
use Rattle.nav_serve.proofs.words.command_of.Goals as goal

pub returns-then-has_hyphens : goal.returns-then-has_hyphens
returns-then-has_hyphens c =
    sym (hyphen_none (texts c.args.words.now)
    (sym (list_any-map has_hyphen string_bytes c.args.words.now) ∙ sym c.has_hyphens.ensures ∙ c.if-has_hyphens.true))

pub returns-in-Ok : goal.returns-in-Ok
returns-in-Ok c =
    let plain : list_any has_hyphen (texts c.args.words.now) ≡ false =
    sym (list_any-map has_hyphen string_bytes c.args.words.now) ∙ sym c.has_hyphens.ensures ∙ c.if-has_hyphens.false in
    c.chosen_of.ensures ∙ matches_tell (app_of c.in_ok-command_line.field-0) (texts c.args.words.now) c.in-Ok.matches
    c.in_ok-command_line.ensures plain c.in-Ok.ensures.kinds c.in-Ok.ensures.matches

pub returns-in-Err : goal.returns-in-Err
returns-in-Err c =
    let plain : list_any has_hyphen (texts c.args.words.now) ≡ false =
    sym (list_any-map has_hyphen string_bytes c.args.words.now) ∙ sym c.has_hyphens.ensures ∙ c.if-has_hyphens.false in
    IfOk-weaker c.refused.result _ _ (λ command h. h.0 ∙ sym (error_tells (app_of c.in_ok-command_line.field-0) (texts c.args.words.now) c.in-Err.error
    c.in_ok-command_line.ensures plain c.in-Err.ensures.kinds (λ e. h.1 (c.kind.ensures ∙ e)))) c.refused.ensures
