use Rattle.std.proofs.Common.{sym, ◌∙◌, ap}
use Rattle.std.specs.Prelude.{option_copied, filter}
use Rattle.partial_path.specs.Sources.{begins_in}
use Rattle.partial_path.proofs.Asking.{file_found, file_passed}
use Rattle.partial_path.proofs.list_paths.path_of.Goals as goal

pub returns-in-Some : goal.returns-in-Some
returns-in-Some c =
    sym (c.loop-number.invariant
    ∙ file_found c.args.files.now c.loop-number.number c.index-files-number.result c.args.start (option_copied c.args.first) c.run_in-run.result c.loop-number.left c.in-Some.path
    c.loop-number-test.true (c.run_in-run.ensures ∙ ap (λ f. filter (begins_in c.loop-number.number c.args.start) f.rules) c.index-files-number.is) c.in-Some.ensures.found)

pub loop-number-preserved : goal.loop-number-preserved
loop-number-preserved c =
    c.loop-number.invariant
    ∙ file_passed c.args.files.now c.loop-number.number c.index-files-number.result c.args.start (option_copied c.args.first) c.run_in-run.result c.loop-number.left c.asked.new.left
    c.loop-number-test.true (c.run_in-run.ensures ∙ ap (λ f. filter (begins_in c.loop-number.number c.args.start) f.rules) c.index-files-number.is) c.in_default.ensures.rest
