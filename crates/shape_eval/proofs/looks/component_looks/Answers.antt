use Rattle.std.proofs.Common.{◌≡◌, ◌<◌, ℕ, List, IfOk, OnOk, false, inl, inr, length, sym, subst}
use Rattle.std.specs.List.{Contains}
use Rattle.rdf_model.specs.declared.look.Look.{Look}
use Rattle.rdf_model.specs.declared.look.Look.TheVariants.{Out}
use Rattle.rdf_model.specs.declared.term.Term.{Term}
use Rattle.rdf_model.specs.Numbers.{graph_of, term_at}
use Rattle.shape_model.specs.declared.component.Component.TheVariants as components
use Rattle.shape_model.specs.Instances.{class_path}
use Rattle.shape_model.specs.NodeLooks.{PathReads}
use Rattle.component_rows.specs.Nodes.{AreNodes, HasNode}
use Rattle.path_eval.specs.Naming.{AddsLooks}
use Rattle.path_eval.proofs.Footprints.{looks_one}
use Rattle.shape_ast.specs.declared.component.TermComponent.{TermComponent}
use Rattle.shape_ast.specs.Components.{term_component}
use Rattle.shape_eval.specs.Looks.{AreInstanceAnswers, ComponentReads, ReadsAtEach}
use Rattle.shape_eval.proofs.Looking.{kept_added}
use Rattle.shape_eval.proofs.looks.component_looks.Goals as goal

pub instance_answers-requires-clause-class : goal.instance_answers-requires-clause-class
instance_answers-requires-clause-class g c = subst (λ (p : ℕ × List Term). p.0 < length p.1) (λ i. (sym c.parameter-parameter.ensures i, c.requires i)) c.recall.ensures.parameter_named

pub instance_answers-requires-clause-nodes : goal.instance_answers-requires-clause-nodes
instance_answers-requires-clause-nodes g c = subst (λ (p : List Term × List ℕ). AreNodes p.0 p.1) (λ i. (c.requires i, sym c.values.ensures i)) c.recall.ensures.nodes

pub returns-in-Class-clause-looks : goal.returns-in-Class-clause-looks
returns-in-Class-clause-looks g c =
    let x = c.args.site.now in
    let ids = c.args.evaluation.now.ids in
    let old = c.args.footprint.now in
    let new = c.instance_answers.new.footprint in
    subst (λ (k : TermComponent). OnOk c.instance_answers.result (AddsLooks x.terms (ComponentReads (graph_of x.terms ids) (HasNode x.terms x.values) (term_at x.terms x.focus) (term_component k) (term_at x.terms x.parameter)) old new)) (sym c.in-Class.is)
    (subst (λ (p : List Term × List ℕ). OnOk c.instance_answers.result (AddsLooks p.0 (ReadsAtEach p.0 p.1 (PathReads (graph_of p.0 ids) false class_path)) old new)) (λ i. (sym c.requires i, c.values.ensures i)) c.instance_answers.ensures.looks)

pub returns-in-Class-clause-instances : goal.returns-in-Class-clause-instances
returns-in-Class-clause-instances g c =
    let x = c.args.site.now in
    let ids = c.args.evaluation.now.ids in
    subst (λ (k : TermComponent). IfOk c.instance_answers.result (λ answers. AreInstanceAnswers (graph_of x.terms ids) (term_component k) (term_at x.terms x.parameter) x.terms x.values answers.items)) (sym c.in-Class.is)
    (subst (λ (p : List Term × List ℕ × ℕ). IfOk c.instance_answers.result (λ answers. AreInstanceAnswers (graph_of p.0 ids) components.Class (term_at p.0 p.2) p.0 p.1 answers.items))
    (λ i. (sym c.requires i, c.values.ensures i, c.parameter-parameter.ensures i)) c.instance_answers.ensures.told)

pub returns-in_ok-add-in-Equals-clause-looks : goal.returns-in_ok-add-in-Equals-clause-looks
returns-in_ok-add-in-Equals-clause-looks g c =
    let x = c.args.site.now in
    let graph = graph_of x.terms c.args.evaluation.now.ids in
    let f = term_at x.terms x.focus in
    let q = term_at x.terms x.parameter in
    let old = c.args.footprint.now in
    let new = c.add.new.self in
    let Added : TermComponent → Type 0 = λ k. AddsLooks x.terms (ComponentReads graph (HasNode x.terms x.values) f (term_component k) q) old new in
    let within : (c.focus.result < length x.terms) × (c.parameter-parameter.result < length x.terms) = (subst (λ (n : ℕ). n < length x.terms) (sym c.focus.ensures) c.recall.ensures.focus_named, subst (λ (n : ℕ). n < length x.terms) (sym c.parameter-parameter.ensures) c.recall.ensures.parameter_named) in
    let one : AddsLooks x.terms (λ look. look ≡ Out f q) old new =
    looks_one x.terms c.recall.ensures.numbering (Out c.focus.result c.parameter-parameter.result) within (Out f q) (λ i. Out (term_at x.terms (c.focus.ensures i)) (term_at x.terms (c.parameter-parameter.ensures i))) old new c.in_ok-add-in-Equals.ensures.ok in
    elim c.in-Equals.is [
      | inl e ↦ subst Added (sym e) one
      | inr (inl e) ↦ subst Added (sym e) one
      | inr (inr (inl e)) ↦ subst Added (sym e) one
      | inr (inr (inr e)) ↦ subst Added (sym e) one
    ]

pub returns-in_ok-add_closed-in-Closed-clause-looks : goal.returns-in_ok-add_closed-in-Closed-clause-looks
returns-in_ok-add_closed-in-Closed-clause-looks g c =
    let x = c.args.site.now in
    let graph = graph_of x.terms c.args.evaluation.now.ids in
    let f = term_at x.terms x.focus in
    subst (λ (k : TermComponent). AddsLooks x.terms (ComponentReads graph (HasNode x.terms x.values) f (term_component k) (term_at x.terms x.parameter)) c.args.footprint.now c.add_closed.new.footprint) (sym c.in-Closed.is)
    (c.in_ok-add_closed-in-Closed.ensures.looks graph f)

pub returns-in-Class-clause-kept : goal.returns-in-Class-clause-kept
returns-in-Class-clause-kept g c = c.instance_answers.ensures.kept

pub returns-in_ok-add-in-Equals-clause-kept : goal.returns-in_ok-add-in-Equals-clause-kept
returns-in_ok-add-in-Equals-clause-kept g c = kept_added c.args.footprint.now c.add.new.self (Out c.focus.result c.parameter-parameter.result) c.in_ok-add-in-Equals.ensures.ok

pub returns-in_err-add-in-Equals-clause-kept : goal.returns-in_err-add-in-Equals-clause-kept
returns-in_err-add-in-Equals-clause-kept g c = λ look h. subst (λ (ls : List (Look ℕ)). Contains ls look) (sym c.in_err-add-in-Equals.ensures.err) h

pub returns-in_ok-add_closed-in-Closed-clause-kept : goal.returns-in_ok-add_closed-in-Closed-clause-kept
returns-in_ok-add_closed-in-Closed-clause-kept g c = c.add_closed.ensures.kept

pub returns-in_err-add_closed-in-Closed-clause-kept : goal.returns-in_err-add_closed-in-Closed-clause-kept
returns-in_err-add_closed-in-Closed-clause-kept g c = c.add_closed.ensures.kept
