use Rattle.path_store.proofs.laws.a_sweep_leaves_the_newest.Goals as goal
use Rattle.path_store.proofs.Members as laws

pub returns-clause-fits : goal.returns-clause-fits
returns-clause-fits c = λ limit ks. laws.fits limit ks

pub returns-clause-newest : goal.returns-clause-newest
returns-clause-newest c = λ limit ks. laws.newest limit ks
