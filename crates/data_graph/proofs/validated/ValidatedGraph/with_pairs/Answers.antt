use Rattle.std.proofs.Common.{List, sym, subst}
use Rattle.rdf_model.specs.Numbers.{IsNumbering}
use Rattle.term_dict.specs.Names.{Named}
use Rattle.kept_rows.specs.declared.kept_row.KeptRow.{KeptRow}
use Rattle.kept_rows.specs.Kept.{Merges}
use Rattle.kept_rows.specs.Laws.{KeepsResults}
use Rattle.kept_rows.proofs.Merged.{merge_law}
use Rattle.data_graph.specs.DataGraphs.{NamedGraph}
use Rattle.data_graph.proofs.validated.ValidatedGraph.with_pairs.Goals as goal

pub invariant_of-result : goal.invariant_of-result
invariant_of-result c =
    let d = c.args.self.now in
    let old = c.self.inside.rows in
    let new = c.merge.new.self in
    let pairs = c.args.pairs.now in
    let keeps : KeepsResults d.terms d.triples d.shapes old = subst (λ (e : NamedGraph). KeepsResults e.terms e.triples e.shapes old) c.self.view_is c.self.invariant in
    let inside : IsNumbering c.self.inside.graph.terms = subst (λ (n : Named). IsNumbering n.terms) c.names.ensures c.recall_numbering.ensures in
    let numbering : IsNumbering d.terms = subst (λ (e : NamedGraph). IsNumbering e.terms) c.self.view_is inside in
    let merges : Merges old pairs new = subst (λ (ks : List KeptRow). Merges ks pairs new) c.in_ok-rows.ensures c.in_ok-merge.ensures.ok in
    subst (λ (e : NamedGraph). KeepsResults e.terms e.triples e.shapes new) (sym c.requires.1) (merge_law d.terms d.triples d.shapes c.requires.0 old new pairs numbering keeps c.requires.2 merges)
