use Rattle.thread_tests.proofs.by_hand.verdicts_are_overtaken.Given as goal

abbrev pub ghosts-overtaken_rows : goal.ghosts-overtaken_rows
ghosts-overtaken_rows g a = record { name = a.blank.name; parts = a.blank.parts }
