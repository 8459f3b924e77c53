use Rattle.std.proofs.Common.{refl, sym, subst}
use Rattle.term_dict.specs.Names.{with_terms}
use Rattle.kept_rows.specs.Laws.{KeepsResults}
use Rattle.data_graph.specs.DataGraphs.{NamedGraph}
use Rattle.data_graph.proofs.Keeping.{kept_more}
use Rattle.data_graph.proofs.validated.ValidatedGraph.name_all.Goals as goal

pub invariant_of-self-2 : goal.invariant_of-self-2
invariant_of-self-2 c =
    let d = c.self.inside.graph in
    let ts = c.args.terms.now in
    subst (λ (e : NamedGraph). KeepsResults e.terms e.triples e.shapes c.self.inside.rows) (sym c.in_ok-numbers.ensures.ok)
    (kept_more d.terms (with_terms d.terms ts) ts d.triples d.shapes c.self.inside.rows refl c.self.invariant)
