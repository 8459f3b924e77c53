use Rattle.std.proofs.Common.{◌≡◌, ◌∙◌, List, ap, sym, subst}
use Rattle.std.proofs.lemmas.Result.{IfOk-weaker, on_ok_weaker}
use Rattle.rdf_model.specs.declared.term.Term.{Term}
use Rattle.rdf_model.specs.declared.triple.Triple.{Triple}
use Rattle.shape_model.specs.ShapeSyntax.{IsShape}
use Rattle.rdf_model.specs.Numbers.{graph_of}
use Rattle.parallel_validate.specs.Counting.{GrowsByCount, IsTargetPair}
use Rattle.parallel_validate.proofs.Members.{same_count}
use Rattle.parallel_validate.proofs.NoShapes.{no_pairs}
use Rattle.kept_rows.specs.declared.kept_row.KeptRow.{KeptRow}
use Rattle.kept_rows.specs.Laws.{KeepsResults}
use Rattle.data_graph.specs.DataGraphs.{IsIndexOf, NamedGraph}
use Rattle.data_graph.proofs.Keeping.{none_kept, same_kept}
use Rattle.data_graph.proofs.graph.DataGraph.kept_results.Goals as goal

pub returns-then-is_without_shapes-clause-rows : goal.returns-then-is_without_shapes-clause-rows
returns-then-is_without_shapes-clause-rows g c =
    let s = c.args.self.now.shapes in
    let same : c.graph.result.now ≡ s = c.graph.ensures ∙ ap (λ (d : NamedGraph). d.shapes) c.self.view_is in
    let none = subst (λ (ts : List Triple). (shape : Term) → IsShape ts shape → ⊥) same (c.is_without_shapes.ensures.0 c.if-is_without_shapes.true) in
    subst (λ (rows : List KeptRow). KeepsResults c.args.self.now.terms c.args.self.now.triples s rows) (sym c.new.ensures) (none_kept c.args.self.now.terms c.args.self.now.triples s none)

pub returns-clause-rows : goal.returns-clause-rows
returns-clause-rows g c =
    let terms = c.self.inside.names.terms in
    let numbers = c.index.result.now in
    let triples = c.args.self.now.triples in
    let s = c.self.inside.shapes.graph in
    let index = subst (λ (d : NamedGraph). IsIndexOf d.terms numbers triples) (sym c.self.view_is) c.index.ensures.index in
    IfOk-weaker c.kept_by.result (λ (rows : List KeptRow). KeepsResults terms (graph_of terms numbers) s rows) (λ (rows : List KeptRow). KeepsResults c.args.self.now.terms triples c.args.self.now.shapes rows)
    (λ rows k. subst (λ (d : NamedGraph). KeepsResults d.terms triples d.shapes rows) c.self.view_is (same_kept terms (graph_of terms numbers) triples s rows index.members k)) c.kept_by.ensures.rows

pub returns-then-is_without_shapes-clause-steps : goal.returns-then-is_without_shapes-clause-steps
returns-then-is_without_shapes-clause-steps g c =
    let s = c.args.self.now.shapes in
    let same : c.graph.result.now ≡ s = c.graph.ensures ∙ ap (λ (d : NamedGraph). d.shapes) c.self.view_is in
    let none = subst (λ (ts : List Triple). (shape : Term) → IsShape ts shape → ⊥) same (c.is_without_shapes.ensures.0 c.if-is_without_shapes.true) in
    no_pairs c.args.self.now.triples s none c.args.steps.now

pub returns-clause-steps : goal.returns-clause-steps
returns-clause-steps g c =
    let terms = c.self.inside.names.terms in
    let numbers = c.index.result.now in
    let triples = c.args.self.now.triples in
    let s = c.args.self.now.shapes in
    let index = subst (λ (d : NamedGraph). IsIndexOf d.terms numbers triples) (sym c.self.view_is) c.index.ensures.index in
    on_ok_weaker c.kept_by.result
    (λ l. same_count (graph_of terms numbers) triples s index.members c.args.steps.now c.kept_by.new.steps (subst (λ (d : NamedGraph). GrowsByCount (IsTargetPair (graph_of terms numbers) d.shapes) c.args.steps.now c.kept_by.new.steps) c.self.view_is l)) c.kept_by.ensures.steps
