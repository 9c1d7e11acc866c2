use Rattle.std.proofs.Common.{None}
use Rattle.std.proofs.lemmas.Bool.{false≢true}
use Rattle.partial_path.specs.Keys.{asked_texts}
use Rattle.root_index.specs.Offers.{files_of}
use Rattle.end_index.proofs.Among.{next_there, next_given}
use Rattle.end_index.proofs.outside.next_outside.Goals as goal

-- the view has each path of the index
pub returns-in_err-path : goal.returns-in_err-path
returns-in_err-path c =
    absurd (false≢true (next_there (files_of c.args.view.now) (asked_texts c.args.symbols.now) c.args.at c.in_ok-place.after c.args.shares.now c.in_ok-place.place c.requires.there c.in_ok-place.ensures None
    c.in_err-path.ensures))

pub returns : goal.returns
returns c =
    next_given (files_of c.args.view.now) (asked_texts c.args.symbols.now) c.args.at c.in_ok-place.after c.args.shares.now c.in_ok-place.place c.in_ok-path.path c.in_ok-place.ensures c.in_ok-path.ensures
