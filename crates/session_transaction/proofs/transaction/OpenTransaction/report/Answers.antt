use Rattle.session_transaction.proofs.transaction.OpenTransaction.report.Goals as goal

pub new-requires : goal.new-requires
new-requires c = rw (c.from_vec-rows.ensures, c.in_ok-names.ensures, c.names.ensures, c.in_ok-numbers.ensures, c.numbers.ensures, c.in_ok-shapes.ensures, c.shapes.ensures) c.in_ok-listing.ensures
