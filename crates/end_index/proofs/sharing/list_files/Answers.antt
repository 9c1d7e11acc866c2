use Rattle.std.proofs.Common.{◌≡◌, ◌∙◌, ap, arith, Some, slice_get}
use Rattle.std.proofs.lemmas.Option.{slice_get-map}
use Rattle.partial_path.specs.Ends.{ends_at_root, ends_by_stack}
use Rattle.version_tree.specs.Contents.{FileRow}
use Rattle.root_index.specs.Offers.{files_of}
use Rattle.end_index.specs.Ends.{marks_in}
use Rattle.end_index.proofs.Dealt.{file_added}
use Rattle.end_index.proofs.sharing.list_files.Goals as goal

-- a file more
pub loop-file-preserved : goal.loop-file-preserved
loop-file-preserved c =
    let found : slice_get (files_of c.args.view.now) c.loop-file.file ≡ Some c.paths.result.now = slice_get-map (λ (row : FileRow). row.file) c.args.view.now c.loop-file.file ∙ c.paths.ensures in
    let at_root : c.root_ends.result.now ≡ marks_in ends_at_root c.paths.result.now = c.root_ends.ensures ∙ ap (marks_in ends_at_root) c.get-paths.ensures.value in
    let by_stack : c.stack_ends.result.now ≡ marks_in ends_by_stack c.paths.result.now = c.stack_ends.ensures ∙ ap (marks_in ends_by_stack) c.get-paths.ensures.value in
    let root = file_added ends_at_root c.args.view.now c.args.from c.loop-file.file c.paths.result.now c.loop-file.root c.add.new.self c.root_ends.result.now c.loop-file.invariant.low found at_root
    c.loop-file.invariant.root c.loop-file.invariant.root_places c.in_ok-add.ensures.marks c.in_ok-add.ensures.places in
    let stack = file_added ends_by_stack c.args.view.now c.args.from c.loop-file.file c.paths.result.now c.loop-file.stack c.add-in-loop-file.new.self c.stack_ends.result.now c.loop-file.invariant.low found by_stack
    c.loop-file.invariant.stack c.loop-file.invariant.stack_places c.in_ok-add-2.ensures.marks c.in_ok-add-2.ensures.places in
    record {
      low = omega (arith, c.loop-file.invariant.low);
      high = omega (arith, c.loop-file-test.true, c.loop-file.invariant.low);
      root = root.0;
      root_places = root.1;
      stack = stack.0;
      stack_places = stack.1;
    }
