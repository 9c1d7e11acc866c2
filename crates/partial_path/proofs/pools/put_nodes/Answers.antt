-- What is asked for stands behind what was there, and what is made behind it.
use Rattle.partial_path.proofs.Pooling.{begins_both, first_put, second_put}
use Rattle.partial_path.proofs.pools.put_nodes.Goals as goal

pub returns-clause-added : goal.returns-clause-added
returns-clause-added c = begins_both _ _ _ _ _ c.in_ok-asked.ensures.items c.in_ok-made.ensures.items

pub returns-clause-fixed : goal.returns-clause-fixed
returns-clause-fixed c = first_put _ _ _ _ _ _ c.in_ok-asked.ensures.within c.in_ok-asked.ensures.value c.in_ok-made.ensures.items

pub returns-clause-scopes : goal.returns-clause-scopes
returns-clause-scopes c =
    second_put _ _ _ _ _ _ _ _ _ c.in_ok-asked.ensures.place c.in_ok-asked.ensures.len c.in_ok-asked.ensures.items c.in_ok-made.ensures.place
    c.in_ok-made.ensures.within c.in_ok-made.ensures.value
