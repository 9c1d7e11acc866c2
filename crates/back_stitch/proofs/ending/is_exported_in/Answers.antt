-- The file tells of its node.
use Rattle.std.proofs.Common.{◌≤◌, ◌∙◌, sym, length, arith}
use Rattle.std.proofs.lemmas.Bool.{ltb-true}
use Rattle.std.proofs.lemmas.Bool.Decides.{nat_tests}
use Rattle.std.proofs.lemmas.Option.{slice_get_past, slice_get_read}
use Rattle.graph_nodes.specs.Graph.{is_exported_kind}
use Rattle.back_stitch.proofs.LookUps.{told_there, told_nowhere}
use Rattle.back_stitch.proofs.ending.is_exported_in.Goals as goal

pub returns-in-Some : goal.returns-in-Some
returns-in-Some c =
    let there = slice_get_read c.args.files.now (length c.args.files.now) c.args.at.file c.in-Some.file.now (λ i. length c.args.files.now) (ltb-true c.args.at.file (length c.args.files.now) (sym c.in-Some.ensures.lookup.0)) c.in-Some.ensures.lookup.1 in
    c.is_exported.ensures ∙ sym (told_there is_exported_kind c.args.files.now c.args.at.file c.args.at.node c.in-Some.file.now there)

pub returns-in-None : goal.returns-in-None
returns-in-None c =
    let past : length c.args.files.now ≤ c.args.at.file = grind (arith, nat_tests, c.in-None.ensures.lookup.0) in
    sym (told_nowhere is_exported_kind c.args.files.now c.args.at.file c.args.at.node (slice_get_past c.args.files.now c.args.at.file past))
