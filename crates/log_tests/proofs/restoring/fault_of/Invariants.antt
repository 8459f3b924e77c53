use Rattle.log_tests.proofs.restoring.fault_of.Given as goal

abbrev pub ghosts-restored : goal.ghosts-restored
ghosts-restored g a = record { name = a.blank.name; parts = a.blank.parts }
