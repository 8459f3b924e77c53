use Rattle.store_tests.proofs.core_calls.committed_one.Given as goal

abbrev pub ghosts-committed : goal.ghosts-committed
ghosts-committed g a = record { name = a.blank.name; parts = a.blank.parts }
