use Rattle.std.proofs.Common.{List, sym, subst}
use Rattle.rdf_model.specs.declared.triple.Triple.{Triple}
use Rattle.record_text.specs.Records.{IsReadableGraph}
use Rattle.ntriples_text.proofs.Sorting.{listing_each}
use Rattle.session_model.proofs.block.Block.from_table.Goals as goal

pub returns : goal.returns
returns c = listing_each _ _ c.in_ok-list.ensures

pub invariant_of-result : goal.invariant_of-result
invariant_of-result c = subst (λ (ts : List Triple). IsReadableGraph ts) (sym (listing_each _ _ c.in_ok-list.ensures)) c.requires
