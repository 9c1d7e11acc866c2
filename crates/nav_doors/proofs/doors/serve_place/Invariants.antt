use Rattle.nav_doors.proofs.doors.serve_place.Given as goal

-- the ledger is the one that was opened here
abbrev pub ghosts-serve_counted : goal.ghosts-serve_counted
ghosts-serve_counted g a = record { name = a.blank.name; parts = a.blank.parts }
