use Rattle.constraint_tests.proofs.evaluations.row_results.Given as goal

abbrev pub ghosts-results : goal.ghosts-results
ghosts-results a = record { name = a.blank.name; parts = a.blank.parts }
