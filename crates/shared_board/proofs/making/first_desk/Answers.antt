-- Two slots without a head are alike.
use Rattle.std.proofs.Common.{◌∙◌, sym}
use Rattle.shared_board.proofs.making.first_desk.Goals as goal

pub new-requires-clause-alike : goal.new-requires-clause-alike
new-requires-clause-alike g c = λ x y a b. a ∙ sym b
