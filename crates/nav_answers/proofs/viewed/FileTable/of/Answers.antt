use Rattle.std.proofs.Common.{◌≡◌, ap, sym, ◌∙◌, take, ◌++◌, ◌∷◌, [], ◌<◌, length, slice_get, Some}
use Rattle.std.proofs.lemmas.List.{take_more}
use Rattle.std.proofs.lemmas.Option.{slice_get_within, get_or_from_slice_get}
use Rattle.root_index.specs.Offers.{files_of}
use Rattle.nav_answers.proofs.Numbers.{file_there}
use Rattle.nav_answers.proofs.viewed.FileTable.of.Goals as goal

pub loop-file-preserved : goal.loop-file-preserved
loop-file-preserved c =
    let files = files_of c.args.view.now in
    let there : slice_get files c.loop-file.file ≡ Some c.paths.result.now = sym (file_there c.args.view.now c.loop-file.file) ∙ c.paths.ensures in
    let lt : c.loop-file.file < length files = slice_get_within files c.loop-file.file c.paths.result.now there in
    c.in_ok-push.ensures.items
    ∙ ap (λ r. r ++ c.in_ok-share.field-0 ∷ []) c.loop-file.invariant
    ∙ ap (λ x. take c.loop-file.file files ++ x ∷ []) (c.in_ok-share.ensures ∙ sym (get_or_from_slice_get files c.loop-file.file c.paths.result.now c.paths.result.now there))
    ∙ sym (take_more files c.loop-file.file c.paths.result.now lt)
