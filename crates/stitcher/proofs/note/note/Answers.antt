-- What is added to the open runs.
use Rattle.std.proofs.Common.{◌&&◌}
use Rattle.stitcher.specs.Opens.{opened_at}
use Rattle.stitcher.proofs.Opening.{added_one, last_of}
use Rattle.stitcher.proofs.note.note.Goals as goal

pub returns-clause-added : goal.returns-clause-added
returns-clause-added g c =
    added_one c.args.search.now c.args.trail.now _ _ (c.args.run.cut && c.args.run.bounded) (opened_at c.args.trail.now c.args.run) c.in_ok-push_if.ensures.added
    (last_of c.args.search.now c.args.trail.now c.args.run c.requires.run)
