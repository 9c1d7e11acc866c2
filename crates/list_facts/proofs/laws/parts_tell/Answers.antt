use Rattle.list_facts.proofs.Sets.{has-part, with-part, without-part}
use Rattle.list_facts.proofs.laws.parts_tell.Goals as goal

pub returns : goal.returns
returns g c = λ order item less part greater low high. (
  has-part order less part greater low high,
  with-part order less part greater low high item,
  without-part order less part greater low high,
)
