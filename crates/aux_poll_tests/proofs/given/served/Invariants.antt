use Rattle.aux_poll_tests.proofs.given.served.Given as goal

-- the ledger of the blank
abbrev pub ghosts-serves_on : goal.ghosts-serves_on
ghosts-serves_on g a = record { name = a.blank.name; parts = a.blank.parts }
