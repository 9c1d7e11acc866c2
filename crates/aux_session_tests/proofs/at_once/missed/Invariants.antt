use Rattle.aux_session_tests.proofs.at_once.missed.Given as goal

-- the ledger is the one that was opened here
abbrev pub ghosts-missed_on : goal.ghosts-missed_on
ghosts-missed_on a b = record { name = b.blank.name; parts = b.blank.parts }
