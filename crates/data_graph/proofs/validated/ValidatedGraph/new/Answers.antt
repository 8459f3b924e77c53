use Rattle.std.proofs.Common.{[], List, sym, subst}
use Rattle.kept_rows.specs.declared.kept_row.KeptRow.{KeptRow}
use Rattle.kept_rows.specs.Laws.{KeepsResults}
use Rattle.term_dict.specs.Names.{first_terms}
use Rattle.data_graph.specs.DataGraphs.{NamedGraph}
use Rattle.data_graph.proofs.Keeping.{no_shape, none_kept}
use Rattle.data_graph.proofs.validated.ValidatedGraph.new.Goals as goal

pub invariant_of-result : goal.invariant_of-result
invariant_of-result c =
    subst (λ (d : NamedGraph). KeepsResults d.terms d.triples d.shapes c.new-2.result) (sym c.in_ok-graph.ensures)
    (subst (λ (rows : List KeptRow). KeepsResults first_terms [] [] rows) (sym c.new-2.ensures) (none_kept first_terms [] [] no_shape))
