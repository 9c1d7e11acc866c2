use Rattle.aux_poll_tests.proofs.many.ran.Given as goal

-- the ledger of the blank
abbrev pub ghosts-status_on : goal.ghosts-status_on
ghosts-status_on g a = record { name = a.blank.name; parts = a.blank.parts }
