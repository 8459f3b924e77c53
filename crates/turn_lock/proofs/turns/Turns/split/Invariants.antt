use Rattle.turn_lock.proofs.turns.Turns.split.Given as goal

abbrev pub ghosts-split_giving : goal.ghosts-split_giving
ghosts-split_giving g a = record { number = a.give }
