use Rattle.std.proofs.Common.{◌∙◌, ◌≡◌, ℕ, List, subst, sym}
use Rattle.rdf_model.specs.declared.look.Look.TheVariants.{OutAny}
use Rattle.rdf_model.specs.Numbers.{term_at}
use Rattle.shape_model.specs.declared.component.Component.TheVariants as components
use Rattle.component_rows.specs.Nodes.{AreNodes, HasNode}
use Rattle.path_eval.specs.Naming.{AddsLooks}
use Rattle.path_eval.proofs.Footprints.{looks_none, looks_same}
use Rattle.shape_eval.specs.Looks.{ComponentReads, ReadsAtEach}
use Rattle.shape_eval.proofs.Closings.{not_so}
use Rattle.shape_eval.proofs.looks.add_closed.Goals as goal

pub returns-then-not-is_true-clause-looks : goal.returns-then-not-is_true-clause-looks
returns-then-not-is_true-clause-looks g c = λ graph f.
    let x = c.args.site.now in
    looks_none x.terms (ComponentReads graph (HasNode x.terms x.values) f components.Closed (term_at x.terms x.parameter))
    (λ look h. not_so c.is_true.result c.if-not-is_true.true (c.is_true.ensures.1 (c.parameter_term.ensures ∙ h.0))) c.args.footprint.now

pub returns-clause-looks : goal.returns-clause-looks
returns-clause-looks g c = λ graph f.
    let x = c.args.site.now in
    let terms = x.terms in
    let old = c.args.footprint.now in
    let new = c.add_subjects.new.footprint in
    let nodes = subst (λ (ns : List ℕ). AreNodes terms ns) (sym c.values-values.ensures) c.recall.ensures.nodes in
    looks_same terms (ReadsAtEach terms x.values (λ v look. look ≡ OutAny v)) (ComponentReads graph (HasNode terms x.values) f components.Closed (term_at terms x.parameter))
    (λ look. (λ h. (sym c.parameter_term.ensures ∙ c.is_true.ensures.0 c.if-not-is_true.false, h), λ h. h.1)) old new
    (subst (λ (ns : List ℕ). AddsLooks terms (ReadsAtEach terms ns (λ v look. look ≡ OutAny v)) old new) c.values-values.ensures (c.in_ok-add_subjects.ensures.looks terms c.recall.ensures.numbering nodes))

pub returns-then-not-is_true-clause-kept : goal.returns-then-not-is_true-clause-kept
returns-then-not-is_true-clause-kept g c = λ look h. h

pub returns-clause-kept : goal.returns-clause-kept
returns-clause-kept g c = c.add_subjects.ensures.kept

pub returns-in_err-add_subjects-clause-kept : goal.returns-in_err-add_subjects-clause-kept
returns-in_err-add_subjects-clause-kept g c = c.add_subjects.ensures.kept
