use Rattle.std.proofs.Common.{◌∙◌, sym, ap, Ok}
use Rattle.ntriples_text.proofs.Sorting.{listing_each}
use Rattle.ntriples_text.proofs.document.read_named.Goals as goal

pub returns : goal.returns
returns c = c.in_ok-table.ensures ∙ ap Ok (sym (listing_each _ _ c.in_ok-sorted.ensures))
