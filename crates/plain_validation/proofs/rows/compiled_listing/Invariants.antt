use Rattle.plain_validation.proofs.rows.compiled_listing.Given as goal

abbrev pub ghosts-compiled_in : goal.ghosts-compiled_in
ghosts-compiled_in a = record { name = a.blank.name; parts = a.blank.parts }
