-- The end of one more path comes after the others.
use Rattle.std.proofs.Common.{ap, sym, ◌∙◌, ◌++◌, take}
use Rattle.std.specs.Option.{option_to_list}
use Rattle.whole_search.specs.Ends.{path_end, path_ends}
use Rattle.whole_search.proofs.PathEnds.{path_ends-more}
use Rattle.whole_search.proofs.rows.ends_of.Goals as goal

pub loop-path-preserved : goal.loop-path-preserved
loop-path-preserved c =
    c.in_ok-push_end.ensures
    ∙ (ap (λ xs. xs ++ option_to_list (path_end c.args.files.now c.args.start.now c.items.result.now)) c.loop-path.invariant
    ∙ (ap (λ p. path_ends c.args.files.now c.args.start.now (take c.loop-path.path-index c.args.paths.now) ++ option_to_list (path_end c.args.files.now c.args.start.now p)) (c.items.ensures ∙ c.path-item.is)
    ∙ sym (path_ends-more c.args.files.now c.args.start.now c.args.paths.now c.loop-path.path-index c.path-item.result c.loop-path-test.true)))
