use Rattle.thread_tests.proofs.by_hand.a_store_by_hand.Given as goal

abbrev pub ghosts-commit_and_read : goal.ghosts-commit_and_read
ghosts-commit_and_read g a = record { name = a.blank.name; parts = a.blank.parts }
