use Rattle.aux_tests.proofs.indexed.indexed.Given as goal

-- the ledger is the one that was opened here
abbrev pub ghosts-indexed_on : goal.ghosts-indexed_on
ghosts-indexed_on g a = record { name = a.blank.name; parts = a.blank.parts }
