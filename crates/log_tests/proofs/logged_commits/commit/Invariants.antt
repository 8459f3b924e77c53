use Rattle.log_tests.proofs.logged_commits.commit.Given as goal

abbrev pub ghosts-commit_one : goal.ghosts-commit_one
ghosts-commit_one g a = record { name = a.blank.name; parts = a.blank.parts }
