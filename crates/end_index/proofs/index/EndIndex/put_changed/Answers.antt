-- The file has the marks that it had, or is put.
use Rattle.std.proofs.Common.{◌≡◌, ◌<◌, refl, sym, ◌∙◌, ap, arith, length, Some, slice_get}
use Rattle.std.proofs.lemmas.Option.{slice_get-map}
use Rattle.partial_path.specs.Ends.{ends_at_root, ends_by_stack}
use Rattle.version_tree.specs.Contents.{FileRow}
use Rattle.root_index.specs.Offers.{files_of}
use Rattle.end_index.proofs.Dealt.{kept_more, put_more}
use Rattle.end_index.proofs.index.EndIndex.put_changed.Goals as goal

pub loop-file-preserved-then-has : goal.loop-file-preserved-then-has
loop-file-preserved-then-has c =
    let found : slice_get (files_of c.args.view.now) c.loop-file.file ≡ Some c.get-paths.result.now =
    slice_get-map (λ (row : FileRow). row.file) c.args.view.now c.loop-file.file ∙ c.paths.ensures ∙ ap Some (sym c.get-paths.ensures.value) in
    record {
      few = c.loop-file.invariant.few;
      root = kept_more ends_at_root c.args.view.now c.loop-file.file c.get-paths.result.now found c.loop-file.self.root c.loop-file.invariant.root (c.if-has.ensures.root refl);
      stack = kept_more ends_by_stack c.args.view.now c.loop-file.file c.get-paths.result.now found c.loop-file.self.stack c.loop-file.invariant.stack (c.if-has.ensures.stack refl);
    }

pub loop-file-preserved : goal.loop-file-preserved
loop-file-preserved c =
    let found : slice_get (files_of c.args.view.now) c.loop-file.file ≡ Some c.get-paths.result.now =
    slice_get-map (λ (row : FileRow). row.file) c.args.view.now c.loop-file.file ∙ c.paths.ensures ∙ ap Some (sym c.get-paths.ensures.value) in
    let inside : c.loop-file.file < length c.args.view.now = omega (arith, c.loop-file-test.true, c.row_count-file-end.ensures.count) in
    record {
      few = omega (arith, c.loop-file.invariant.few, c.if-changed-eq-FEW_CHANGED.false);
      root = put_more ends_at_root c.args.view.now c.loop-file.file c.get-paths.result.now found c.loop-file.self.root c.put.new.self.root inside c.loop-file.invariant.root c.in_ok-put.ensures.root;
      stack = put_more ends_by_stack c.args.view.now c.loop-file.file c.get-paths.result.now found c.loop-file.self.stack c.put.new.self.stack inside c.loop-file.invariant.stack c.in_ok-put.ensures.stack;
    }
