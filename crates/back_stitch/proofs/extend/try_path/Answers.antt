-- What comes of the path is noted and kept; of one that is no back list nothing comes.
use Rattle.back_stitch.proofs.Listed.{tried_not, tried_by, tried_back}
use Rattle.back_stitch.proofs.extend.try_path.Goals as goal

pub returns-in_default-clause-tried : goal.returns-in_default-clause-tried
returns-in_default-clause-tried g c = λ d paths at there behind may.
    tried_not (g.P.BackSource.files c.args.source.now) d paths (c.args.file, c.args.path.now) c.args.tally.now.count c.args.tally.now.rows.items c.args.work.now.items c.in_ok-found.field-0
    (c.in_ok-found.ensures d paths at there behind may) c.in_default.is

pub returns-clause-tried : goal.returns-clause-tried
returns-clause-tried g c = λ d paths at there behind may.
    tried_by (g.P.BackSource.files c.args.source.now) d paths (c.args.file, c.args.path.now) c.in-Some.found c.args.tally.now.count c.note.new.self.count c.args.tally.now.rows.items c.note.new.self.rows.items
    c.args.work.now.items c.keep_open.new.work.items c.in_ok-found.field-0
    (c.in_ok-found.ensures d paths at there behind may) c.in-Some.is c.in_ok-note.ensures.count c.in_ok-note.ensures.rows c.in_ok-keep_open.ensures

pub returns-in_err-note-clause-back : goal.returns-in_err-note-clause-back
returns-in_err-note-clause-back g c h = λ d paths at there behind may.
    tried_back (g.P.BackSource.files c.args.source.now) d paths (c.args.file, c.args.path.now) c.in-Some.found c.in_ok-found.field-0
    (c.in_ok-found.ensures d paths at there behind may) c.in-Some.is
