use Rattle.aux_session_tests.proofs.made_trees.shown.Given as goal

-- the ledger is the one that was opened here
abbrev pub ghosts-shown_on : goal.ghosts-shown_on
ghosts-shown_on g a = record { name = a.blank.name; parts = a.blank.parts }
