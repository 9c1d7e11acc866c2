use Rattle.path_store.proofs.laws.what_is_kept_is_found.Goals as goal
use Rattle.path_store.proofs.Members as laws

pub returns-clause-found : goal.returns-clause-found
returns-clause-found c = λ doc paths ks h. laws.found doc paths ks h

pub returns-clause-kept : goal.returns-clause-kept
returns-clause-kept c = λ doc paths ks d h. laws.stands doc paths ks d h

pub returns-clause-absent : goal.returns-clause-absent
returns-clause-absent c = λ doc ks. (laws.absent doc ks, laws.not_found doc ks)
