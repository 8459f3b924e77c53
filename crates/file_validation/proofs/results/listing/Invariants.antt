use Rattle.file_validation.proofs.results.listing.Given as goal

abbrev pub ghosts-listing_in : goal.ghosts-listing_in
ghosts-listing_in g a = record { name = a.blank.name; parts = a.blank.parts }
