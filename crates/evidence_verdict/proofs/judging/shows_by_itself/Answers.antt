use Rattle.std.proofs.Common.{◌≡◌, ◌∙◌, ℕ, List, sym, ap, subst}
use Rattle.std.specs.Prelude.{◌↔◌, IsTrue}
use Rattle.std.specs.List.{Contains}
use Rattle.std.proofs.lemmas.Result.{IfOk-weaker}
use Rattle.rdf_model.specs.declared.term.Term.{Term}
use Rattle.rdf_model.specs.declared.triple.Triple.{Triple}
use Rattle.rdf_model.specs.Numbers.{graph_of, term_at}
use Rattle.shape_ast.specs.declared.shape.Shape.{Shape}
use Rattle.shape_ast.specs.Readings.{read_shape}
use Rattle.shape_eval.specs.Settings.{Setting}
use Rattle.shape_eval.proofs.Lookups.{at_place, named_place}
use Rattle.parallel_validate.specs.Named.{AreNamedTriples}
use Rattle.evidence_blocks.specs.declared.block.ShownLook.{ShownLook}
use Rattle.evidence_blocks.specs.Shown.{triples_in}
use Rattle.result_evidence.specs.Standing.{ForEach, ForShape}
use Rattle.evidence_verdict.specs.Judging.{HoldsIn, ShowsByItself}
use Rattle.evidence_verdict.proofs.Focused.{focus_named}
use Rattle.evidence_verdict.proofs.Gathered.{listed_named}
use Rattle.evidence_verdict.proofs.Judged.{by_numbers, not_so, place_of_shape, so_where}
use Rattle.evidence_verdict.proofs.judging.shows_by_itself.Goals as goal

pub returns-in_default : goal.returns-in_default
returns-in_default g c s of =
    let e = c.args.evaluation.now in
    let b = c.args.block.now in
    not_so (ShowsByItself s b) (λ shown. let k = place_of_shape e.terms e.shapes s of (triples_in b.looks) b.shape b.focus shown.0.0 in c.in_default.ensures k.0 k.1 k.2 k.3)

pub returns-in_default-id : goal.returns-in_default-id
returns-in_default-id g c s of =
    let e = c.args.evaluation.now in
    let b = c.args.block.now in
    let named = listed_named e.terms e.ids c.recall.ensures.numbered b.looks c.requires.triples in
    not_so (ShowsByItself s b) (λ shown. c.in_default-id.ensures
    (subst (λ (ts : List Term). Contains ts b.focus) (sym c.requires.names) (focus_named e.terms e.shapes c.recall.ensures.bound s of (triples_in b.looks) named b.shape b.focus shown.0.0)))

pub listed_graph-requires : goal.listed_graph-requires
listed_graph-requires g c =
    let e = c.args.evaluation.now in
    subst (λ (p : List Term × List ShownLook). AreNamedTriples p.0 (triples_in p.1)) (λ i. (sym c.requires.names i, sym c.as_slice.ensures i))
    (listed_named e.terms e.ids c.recall.ensures.numbered c.args.block.now.looks c.requires.triples)

pub returns : goal.returns
returns g c =
    let e = c.args.evaluation.now in
    let b = c.args.block.now in
    let place = c.in-Some.place in
    let focus = c.in-Some-id.focus in
    let own = c.new-own.result in
    let index = c.in_ok-listed.listed in
    let same = subst (λ (p : List Term × List ShownLook). (t : Triple) → Contains (graph_of p.0 index) t ↔ Contains (triples_in p.1) t) (λ i. (c.requires.names i, c.as_slice.ensures i)) c.in_ok-listed.ensures.members in
    let at_focus : term_at e.terms focus ≡ b.focus = ap (λ (ts : List Term). term_at ts focus) (sym c.requires.names) ∙ c.in-Some-id.ensures.1 in
    IfOk-weaker c.holds_at.result (λ answer. ForShape own.terms own.shapes place (λ s shape. IsTrue answer ↔ HoldsIn (graph_of own.terms own.ids) s shape (term_at own.terms focus) b))
    (λ answer. ForEach e.terms e.shapes (λ s. IsTrue answer ↔ ShowsByItself s b))
    (λ answer told s of.
    (let h = at_place e.shapes place c.in-Some.ensures.0 in
    let shape = read_shape (term_at e.terms) h.0 in
    let at = named_place e.terms e.shapes place h.0 h.1 in
    let there = subst (λ (t : Setting). ForShape t.terms t.shapes place (λ s shape. IsTrue answer ↔ HoldsIn (graph_of t.terms t.ids) s shape (term_at t.terms focus) b)) c.new-own.ensures told in
    let here = subst (λ (p : List Term × List (Shape ℕ)). ForShape p.0 p.1 place (λ s shape. IsTrue answer ↔ HoldsIn (graph_of p.0 index) s shape (term_at p.0 focus) b)) (λ i. (c.requires.names i, c.bound-bound.ensures i)) there in
    so_where (IsTrue answer) (HoldsIn (graph_of e.terms index) s shape.node (term_at e.terms focus) b) (ShowsByItself s b) (here s shape of at)
    (by_numbers s b (graph_of e.terms index) shape.node (term_at e.terms focus) (c.in-Some.ensures.1 shape at) at_focus same))) c.holds_at.ensures
