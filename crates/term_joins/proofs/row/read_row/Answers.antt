use Rattle.std.proofs.Common.{slice_index_or}
use Rattle.std.proofs.lemmas.List.Elements.{Contains-get_or}
use Rattle.term_joins.proofs.row.read_row.Goals as goal

pub term_of-requires : goal.term_of-requires
term_of-requires g c =
    let i = c.loop-number.number-index in
    c.requires (slice_index_or c.args.numbers.now i 0) (Contains-get_or c.args.numbers.now i 0 c.loop-number-test.true)
