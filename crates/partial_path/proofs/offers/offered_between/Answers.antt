use Rattle.std.proofs.Common.{sym, subst, ◌-◌, Some, None}
use Rattle.partial_path.specs.Keys.{IsByKey}
use Rattle.partial_path.proofs.KeyOrders.{piece_sorted}
use Rattle.partial_path.proofs.Offered.{next_in_piece}
use Rattle.partial_path.proofs.offers.offered_between.Goals as goal

pub first_offered-requires : goal.first_offered-requires
first_offered-requires c =
    subst IsByKey (sym c.between.ensures.value) (piece_sorted c.args.paths.now c.args.from (c.args.high - c.args.from) c.requires.order)

pub returns-in-Some : goal.returns-in-Some
returns-in-Some c =
    next_in_piece c.args.start c.args.symbols.now c.args.paths.now c.between.result c.args.from c.args.high (Some c.in-Some.place)
    c.requires.bounds.0 c.between.ensures.value c.between.ensures.len c.in-Some.ensures

pub returns-in-None : goal.returns-in-None
returns-in-None c =
    next_in_piece c.args.start c.args.symbols.now c.args.paths.now c.between.result c.args.from c.args.high None
    c.requires.bounds.0 c.between.ensures.value c.between.ensures.len c.in-None.ensures
