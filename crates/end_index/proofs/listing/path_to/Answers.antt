-- The path that is asked for is one of this file's, or stands in a later file.
use Rattle.std.proofs.Common.{◌≡◌, ◌≤◌, sym, ◌∙◌, ap, arith, length, Some, slice_get}
use Rattle.std.proofs.lemmas.List.{length-map}
use Rattle.std.proofs.lemmas.Option.{slice_get-map}
use Rattle.partial_path.specs.PathSets.{FileRules}
use Rattle.partial_path.specs.Sources.{graphs_of}
use Rattle.version_tree.specs.Contents.{FileRow}
use Rattle.root_index.specs.Offers.{files_of}
use Rattle.end_index.proofs.Listed.{to_found, to_passed, to_none}
use Rattle.end_index.proofs.listing.path_to.Goals as goal

pub returns-in-Some : goal.returns-in-Some
returns-in-Some c =
    let found : slice_get (files_of c.args.view.now) c.loop-file.file ≡ Some c.paths.result.now = slice_get-map (λ (row : FileRow). row.file) c.args.view.now c.loop-file.file ∙ c.paths.ensures in
    let same : c.paths-paths.result ≡ c.paths.result.now.rules = c.paths-paths.ensures.value ∙ ap (λ (f : FileRules). f.rules) c.get.ensures.value in
    sym (c.loop-file.invariant
    ∙ to_found (graphs_of (files_of c.args.view.now)) c.args.spot (files_of c.args.view.now) c.loop-file.file c.paths.result.now c.paths-paths.result c.loop-file.left c.in-Some.path found same c.in-Some.ensures.found)

pub loop-file-preserved : goal.loop-file-preserved
loop-file-preserved c =
    let found : slice_get (files_of c.args.view.now) c.loop-file.file ≡ Some c.paths.result.now = slice_get-map (λ (row : FileRow). row.file) c.args.view.now c.loop-file.file ∙ c.paths.ensures in
    let same : c.paths-paths.result ≡ c.paths.result.now.rules = c.paths-paths.ensures.value ∙ ap (λ (f : FileRules). f.rules) c.get.ensures.value in
    c.loop-file.invariant
    ∙ to_passed (graphs_of (files_of c.args.view.now)) c.args.spot (files_of c.args.view.now) c.loop-file.file c.paths.result.now c.paths-paths.result c.loop-file.left c.ending.new.left found same c.in_default.ensures.rest

pub returns : goal.returns
returns c =
    let over : length (files_of c.args.view.now) ≤ c.loop-file.file = omega (arith, c.loop-file-test.false, c.row_count-file-end.ensures.count, length-map c.args.view.now (λ (row : FileRow). row.file)) in
    sym (c.loop-file.invariant ∙ to_none (graphs_of (files_of c.args.view.now)) c.args.spot (files_of c.args.view.now) c.loop-file.file c.loop-file.left over)
