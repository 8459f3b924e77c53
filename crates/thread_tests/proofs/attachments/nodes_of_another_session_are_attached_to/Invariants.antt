use Rattle.thread_tests.proofs.attachments.nodes_of_another_session_are_attached_to.Given as goal

abbrev pub ghosts-run : goal.ghosts-run
ghosts-run g a = record { name = a.blank.name; parts = a.blank.parts }
