use Rattle.log_tests.proofs.restoring.records_beyond_the_limits.Given as goal

abbrev pub ghosts-restored : goal.ghosts-restored
ghosts-restored g a = record { name = a.blank.name; parts = a.blank.parts }
