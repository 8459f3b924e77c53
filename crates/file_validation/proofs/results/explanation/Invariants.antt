use Rattle.file_validation.proofs.results.explanation.Given as goal

abbrev pub ghosts-explanation_in : goal.ghosts-explanation_in
ghosts-explanation_in a = record { name = a.blank.name; parts = a.blank.parts }
