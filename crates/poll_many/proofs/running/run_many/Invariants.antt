use Rattle.poll_many.proofs.running.run_many.Given as goal

-- the board is the one that was made here
abbrev pub ghosts-serve_on : goal.ghosts-serve_on
ghosts-serve_on g a = record { board = a.board }
