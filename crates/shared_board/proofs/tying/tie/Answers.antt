use Rattle.shared_board.proofs.Passed.{have_trans, seats_stay, tied}
use Rattle.shared_board.proofs.tying.tie.Goals as goal

pub have_own-requires : goal.have_own-requires
have_own-requires g c =
    seats_stay g.J.Naming.board.seats c.args.seats.now c.passed_on.new.seats c.requires
    (have_trans c.args.seats.now c.loop.seats c.passed_on.new.seats c.loop.invariant c.passed_on.ensures.learnt)

pub returns-then-have_own-clause-tied : goal.returns-then-have_own-clause-tied
returns-then-have_own-clause-tied g c =
    tied g.J.Naming.board.seats c.args.seats.now c.loop.seats c.passed_on.new.seats c.requires c.loop.invariant c.passed_on.ensures.learnt
    (c.in_ok-passed_on.ensures.begin c.if-branch.true) (c.have_own.ensures c.if-have_own.true)
