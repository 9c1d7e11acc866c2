use Rattle.navd.proofs.main.Given as goal

abbrev pub ghosts-run_alone : goal.ghosts-run_alone
ghosts-run_alone a b = record { name = b.blank.name; parts = b.blank.parts }
