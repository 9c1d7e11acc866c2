use Rattle.std.proofs.Common.{◌∙◌, sym}
use Rattle.partial_path.proofs.Listing.{files_behind, found_behind, none_found_behind, no_files_left}
use Rattle.partial_path.proofs.file_list.offer_behind.Goals as goal

pub loop-file-init : goal.loop-file-init
loop-file-init c = files_behind c.args.files.now c.args.symbols.now c.args.at (sym c.is_shared.ensures ∙ c.if-not-is_shared.false)

pub returns-in-Some : goal.returns-in-Some
returns-in-Some c =
    c.loop-file.invariant
    ∙ found_behind c.args.files.now c.args.symbols.now c.args.at.inside.start c.loop-file.file c.at-inside.result c.in-Some.found.2 (c.in-Some.found.0, c.in-Some.found.1)
    (sym c.is_shared.ensures ∙ c.if-not-is_shared.false) (c.at-inside.ensures.all c.args.symbols.now) c.at-inside.ensures.start c.in-Some.ensures.start c.in-Some.ensures.file c.in-Some.ensures.next

pub loop-file-preserved : goal.loop-file-preserved
loop-file-preserved c =
    c.loop-file.invariant
    ∙ none_found_behind c.args.files.now c.args.symbols.now c.args.at.inside.start c.loop-file.file c.at-inside.result
    (sym c.is_shared.ensures ∙ c.if-not-is_shared.false) (c.at-inside.ensures.all c.args.symbols.now) c.in_default.ensures.next

pub returns : goal.returns
returns c =
    c.loop-file.invariant ∙ no_files_left c.args.files.now c.args.symbols.now c.args.at.inside.start c.loop-file.file c.loop-file-test.false
