use Rattle.evidence_tests.proofs.blocks.explained.Given as goal

abbrev pub ghosts-explained_in : goal.ghosts-explained_in
ghosts-explained_in a = record { name = a.blank.name; parts = a.blank.parts }
