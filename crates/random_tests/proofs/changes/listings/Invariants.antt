use Rattle.random_tests.proofs.changes.listings.Given as goal

abbrev pub ghosts-listings_in : goal.ghosts-listings_in
ghosts-listings_in a = record { name = a.blank.name; parts = a.blank.parts }
