use Rattle.aux_poll_tests.proofs.given.polled.Given as goal

-- the ledger of the blank
abbrev pub ghosts-polls_on : goal.ghosts-polls_on
ghosts-polls_on g a = record { name = a.blank.name; parts = a.blank.parts }
