use Rattle.partial_path.proofs.HeadOrders.{heads_differ}
use Rattle.root_index.proofs.HeadOrders.{heads_same}
use Rattle.root_index.proofs.key_heads.heads_cmp.Goals as goal

pub returns-then-a-b-clause-told : goal.returns-then-a-b-clause-told
returns-then-a-b-clause-told c x y p q = heads_differ c.args.a c.args.b x y c.cmp.result p q c.if-a-b.true c.cmp.ensures

pub returns-then-a-le8-clause-told : goal.returns-then-a-le8-clause-told
returns-then-a-le8-clause-told c x y p q = heads_same c.args.a c.args.b x y p q c.if-a-b.false c.if-a-le8.true
