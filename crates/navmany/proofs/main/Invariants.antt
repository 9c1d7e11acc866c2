use Rattle.navmany.proofs.main.Given as goal

abbrev pub ghosts-serve : goal.ghosts-serve
ghosts-serve a b = record { name = b.blank.name; parts = b.blank.parts }
