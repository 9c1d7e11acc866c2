use Rattle.stitcher.proofs.room.Room.give_back.Given as goal

abbrev pub decreases-loop-run : goal.decreases-loop-run
decreases-loop-run l = goal.left-loop-run l
