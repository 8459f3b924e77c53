use Rattle.log_tests.proofs.restoring.two_records.Given as goal

abbrev pub ghosts-restored : goal.ghosts-restored
ghosts-restored g a = record { name = a.blank.name; parts = a.blank.parts }
