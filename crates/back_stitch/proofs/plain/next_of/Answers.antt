-- A file with none left is passed over.
use Rattle.std.proofs.Common.{◌≡◌, ◌∙◌, sym, ap, List, Some, filter, drop, arith}
use Rattle.std.specs.Prelude.{slice_get}
use Rattle.partial_path.specs.Rules.{Rule}
use Rattle.back_stitch.specs.Plain.{ends_in}
use Rattle.back_stitch.proofs.LookUps.{at_index, left_passed, left_none}
use Rattle.back_stitch.proofs.plain.next_of.Goals as goal

pub loop-file-preserved : goal.loop-file-preserved
loop-file-preserved c =
    let there : slice_get c.args.files.now c.loop-file.file ≡ Some c.index-files-file.result =
    at_index c.args.files.now c.loop-file.file c.index-files-file.result c.loop-file-test.true ∙ ap Some (sym c.index-files-file.is) in
    c.loop-file.invariant
    ∙ left_passed c.args.files.now c.args.at.spot c.loop-file.file c.loop-file.place c.index-files-file.result there
    (ap (λ (rules : List Rule). filter (ends_in c.args.files.now c.args.at.spot c.loop-file.file) (drop c.loop-file.place rules)) (sym c.paths-paths.ensures.value) ∙ c.in_default.ensures)

pub returns : goal.returns
returns c = c.loop-file.invariant ∙ left_none c.args.files.now c.args.at.spot c.loop-file.file c.loop-file.place (omega arith)
