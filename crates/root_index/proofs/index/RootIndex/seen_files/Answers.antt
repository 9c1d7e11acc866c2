use Rattle.std.proofs.Common.{ap, sym, List, ℕ, ◌∙◌, slice_get}
use Rattle.root_index.specs.Roots.{RootPath}
use Rattle.root_index.specs.Offers.{number_in}
use Rattle.root_index.proofs.Seen.{table_more}
use Rattle.root_index.proofs.index.RootIndex.seen_files.Goals as goal

pub loop-place-preserved : goal.loop-place-preserved
loop-place-preserved c =
    c.note.ensures
    ∙ c.in_ok-push.ensures
    ∙ table_more c.loop-place.files c.args.self.now c.args.view.now c.loop-place.place c.at-group.result.0.now c.number_in.result c.loop-place.invariant
    (ap (λ (paths : List RootPath). slice_get paths c.loop-place.place) (sym c.self.view_is) ∙ c.at-group.ensures)
    (c.number_in.ensures.value ∙ ap (λ (path : List ℕ). number_in c.args.view.now path) c.path.ensures)
