use Rattle.std.proofs.Common.{◌≡◌, List, string_bytes, sym, subst}
use Rattle.std.specs.Prelude.{ℕ}
use Rattle.std.proofs.lemmas.Result.{IfOk-weaker}
use Rattle.rdf_model.specs.declared.term.Term.{Term}
use Rattle.rdf_model.specs.Numbers.{graph_of, term_at}
use Rattle.shape_ast.specs.Readings.{AreBound, AreNamed, ReadShape, named_shapes, read_shapes}
use Rattle.shape_ast.specs.Standing.{AreBuilt, StandFor}
use Rattle.parallel_validate.proofs.Bounded.{well_acyclic, well_shallow}
use Rattle.parallel_validate.proofs.Naming.{are_named}
use Rattle.result_evidence.specs.declared.aimed_row.AimedRow.{AimedRow}
use Rattle.result_evidence.specs.AimedRows.{AreAimedRows}
use Rattle.result_evidence.specs.Standing.{AreOf}
use Rattle.graph_explanation.specs.Explanations.{IsExplanation}
use Rattle.graph_explanation.specs.Firsts.{IsTextOfEach, kept_rows}
use Rattle.graph_explanation.proofs.Keeping.{lists_results}
use Rattle.graph_explanation.proofs.Numbered.{explains}
use Rattle.graph_explanation.proofs.explaining.explanation_over.Goals as goal

pub bind-requires : goal.bind-requires
bind-requires g c =
    let shapes = c.shapes.result.now.shapes in
    subst (λ (terms : List Term). AreNamed terms shapes) (sym c.names.ensures) (are_named c.args.data.now.terms c.args.shapes.now shapes c.shapes.ensures.shapes.within c.requires)

pub aimed_rows-requires-clause-bound : goal.aimed_rows-requires-clause-bound
aimed_rows-requires-clause-bound g c = subst (λ (terms : List Term). AreBound terms c.in_ok-bound.bound.shapes) c.names.ensures c.in_ok-bound.ensures.bound

pub aimed_rows-requires-clause-built : goal.aimed_rows-requires-clause-built
aimed_rows-requires-clause-built g c = subst (λ (terms : List Term). AreBuilt (term_at terms) c.in_ok-bound.bound.shapes) c.names.ensures (c.in_ok-bound.ensures.built c.shapes.ensures.shapes.built)

pub blocks_of-requires-clause-bound : goal.blocks_of-requires-clause-bound
blocks_of-requires-clause-bound g c = subst (λ (terms : List Term). AreBound terms c.in_ok-bound.bound.shapes) c.names.ensures c.in_ok-bound.ensures.bound

pub blocks_of-requires-clause-built : goal.blocks_of-requires-clause-built
blocks_of-requires-clause-built g c = subst (λ (terms : List Term). AreBuilt (term_at terms) c.in_ok-bound.bound.shapes) c.names.ensures (c.in_ok-bound.ensures.built c.shapes.ensures.shapes.built)

pub blocks_of-requires-clause-shapes : goal.blocks_of-requires-clause-shapes
blocks_of-requires-clause-shapes g c =
    let s = c.args.shapes.now in
    let well = c.shapes.ensures.well_formed in
    let shapes = c.in_ok-bound.bound.shapes in
    let same = subst (λ (ts : List Term). named_shapes ts shapes ≡ read_shapes c.shapes.result.now.shapes) c.names.ensures c.in_ok-bound.ensures.same in
    let of : AreOf c.args.data.now.terms shapes s = record {
      stand = subst (λ (all : List ReadShape). StandFor all s) (sym same) c.shapes.ensures.shapes.stand;
      acyclic = well_acyclic s well;
      shallow = well_shallow s well;
    } in
    (s, of)

pub blocks_of-requires-clause-aimed : goal.blocks_of-requires-clause-aimed
blocks_of-requires-clause-aimed g c =
    subst (λ (rows : List AimedRow). AreAimedRows c.args.data.now.terms c.args.data.now.ids c.in_ok-bound.bound.shapes rows) (sym c.as_slice.ensures.value) c.in_ok-aimed.ensures

pub returns : goal.returns
returns g c =
    let terms = c.args.data.now.terms in
    let ids = c.args.data.now.ids in
    let s = c.args.shapes.now in
    let well = c.shapes.ensures.well_formed in
    let shapes = c.in_ok-bound.bound.shapes in
    let rows = c.in_ok-aimed.aimed.items in
    let same = subst (λ (ts : List Term). named_shapes ts shapes ≡ read_shapes c.shapes.result.now.shapes) c.names.ensures c.in_ok-bound.ensures.same in
    let of : AreOf terms shapes s = record {
      stand = subst (λ (all : List ReadShape). StandFor all s) (sym same) c.shapes.ensures.shapes.stand;
      acyclic = well_acyclic s well;
      shallow = well_shallow s well;
    } in
    IfOk-weaker c.blocks_of.result (λ text. (n : ℕ) × IsTextOfEach terms ids shapes c.as_slice.result.now n (string_bytes text)) (λ text. IsExplanation (graph_of terms ids) s (string_bytes text))
    (λ text h.
    let each = subst (λ (rs : List AimedRow). IsTextOfEach terms ids shapes rs h.0 (string_bytes text)) c.as_slice.ensures.value h.1 in
    let kept = each.kept in
    explains terms ids shapes s of (kept_rows kept) (lists_results terms ids shapes rows kept c.in_ok-aimed.ensures each.keeps s of) (string_bytes text) each.written)
    c.blocks_of.ensures
