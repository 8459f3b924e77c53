use Rattle.std.proofs.Common.{◌∙◌, sym, ap, Ok}
use Rattle.ntriples_text.proofs.Sorting.{listing_each}
use Rattle.ntriples_text.proofs.document.read.Goals as goal

pub returns-clause-reads : goal.returns-clause-reads
returns-clause-reads c = c.in_ok-table.ensures.reads ∙ ap (λ g. Ok (g, c.read_numbered.new.next)) (sym (listing_each _ _ c.in_ok-sorted.ensures))
