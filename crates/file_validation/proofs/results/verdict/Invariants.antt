use Rattle.file_validation.proofs.results.verdict.Given as goal

abbrev pub ghosts-verdict_in : goal.ghosts-verdict_in
ghosts-verdict_in a = record { name = a.blank.name; parts = a.blank.parts }
