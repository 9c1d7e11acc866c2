use Rattle.nav_doors.proofs.house.serve_house.Given as goal

-- the board is the one that was made here
abbrev pub ghosts-serve_named : goal.ghosts-serve_named
ghosts-serve_named g a = record { board = a.board }
