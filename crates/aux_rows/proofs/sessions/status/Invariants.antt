use Rattle.aux_rows.proofs.sessions.status.Given as goal

-- the ledger is the one that was opened here
abbrev pub ghosts-status_on : goal.ghosts-status_on
ghosts-status_on a b = record { name = b.blank.name; parts = b.blank.parts }
