use Rattle.thread_tests.proofs.by_hand.a_report_has_the_results_at_the_begin.Given as goal

abbrev pub ghosts-report_around_shapes : goal.ghosts-report_around_shapes
ghosts-report_around_shapes g a = record { name = a.blank.name; parts = a.blank.parts }
