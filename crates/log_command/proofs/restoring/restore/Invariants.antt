use Rattle.log_command.proofs.restoring.restore.Given as goal

abbrev pub ghosts-restore_counted : goal.ghosts-restore_counted
ghosts-restore_counted g a = record { name = a.blank.name; parts = a.blank.parts }
