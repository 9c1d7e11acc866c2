use Rattle.aux_session_tests.proofs.kept_documents.indexed.Given as goal

-- the ledger is the one that was opened here
abbrev pub ghosts-indexed_on : goal.ghosts-indexed_on
ghosts-indexed_on a b = record { name = b.blank.name; parts = b.blank.parts }
