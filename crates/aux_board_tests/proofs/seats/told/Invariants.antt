use Rattle.aux_board_tests.proofs.seats.told.Given as goal

-- the board is the one that was made here
abbrev pub ghosts-told_by_three : goal.ghosts-told_by_three
ghosts-told_by_three g a = record { board = a.board }
