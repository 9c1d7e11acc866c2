use Rattle.std.proofs.Common.{◌≡◌, ◌<◌, ◌∙◌, ap, ◌++◌, arith, length}
use Rattle.std.specs.Prelude.{option_copied}
use Rattle.std.proofs.lemmas.List.{length-map}
use Rattle.root_index.specs.Offers.{files_of}
use Rattle.root_index.specs.Looks.{look_at, look_behind}
use Rattle.root_index.proofs.Looked.{files_from, still_here}
use Rattle.root_index.proofs.looks.looked_behind.Goals as goal

pub returns-in-Some : goal.returns-in-Some
returns-in-Some c =
    let long : length (files_of c.args.view.now) ≡ length c.args.view.now = length-map c.args.view.now _ in
    let inside : c.loop-file.file < length (files_of c.args.view.now) = omega (arith, long, c.loop-file-test.true, c.row_count-count.ensures.count) in
    c.loop-file.invariant ∙ files_from (files_of c.args.view.now) c.loop-file.file (option_copied c.args.symbol) inside
    ∙ still_here (files_of c.args.view.now) (option_copied c.args.symbol) (look_at c.loop-file.file 0) _ _ c.in-Some.ensures.next c.in-Some.ensures.file

-- a file without more is passed
pub loop-file-preserved : goal.loop-file-preserved
loop-file-preserved c =
    let long : length (files_of c.args.view.now) ≡ length c.args.view.now = length-map c.args.view.now _ in
    let inside : c.loop-file.file < length (files_of c.args.view.now) = omega (arith, long, c.loop-file-test.true, c.row_count-count.ensures.count) in
    c.loop-file.invariant ∙ files_from (files_of c.args.view.now) c.loop-file.file (option_copied c.args.symbol) inside
    ∙ ap (λ rs. rs ++ look_behind (files_of c.args.view.now) (option_copied c.args.symbol) (look_at c.loop-file.file 0)) c.in_default.ensures.next
