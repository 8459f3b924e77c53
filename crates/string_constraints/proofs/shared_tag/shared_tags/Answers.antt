use Rattle.std.proofs.Common.{List, ℕ, get_or, subst, sym}
use Rattle.std.specs.List.{Contains}
use Rattle.std.proofs.lemmas.List.Elements.{Contains-get_or}
use Rattle.rdf_model.specs.declared.term.Term.{Term}
use Rattle.component_rows.specs.Nodes.{AreNodes}
use Rattle.string_constraints.specs.Languages.{AreShared, Notes, tag_of}
use Rattle.string_constraints.proofs.Tags.{noted_more, all_noted}
use Rattle.string_constraints.proofs.shared_tag.shared_tags.Goals as goal

pub named-requires : goal.named-requires
named-requires g c =
    let values = c.values-values.result.now in
    let value = get_or values c.loop-value.value-index 0 in
    c.recall.ensures.nodes.named value (subst (λ (ns : List ℕ). Contains ns value) c.values-values.ensures (Contains-get_or values c.loop-value.value-index 0 c.loop-value-test.true))

pub loop-value-preserved : goal.loop-value-preserved
loop-value-preserved g c =
    noted_more c.args.site.now.terms c.values-values.result.now c.loop-value.value-index c.loop-value.seen.keys c.loop-value.shared.keys c.note_term.new.seen.keys c.note_term.new.shared.keys c.loop-value.invariant
    (subst (λ (t : Term). Notes (tag_of t) c.loop-value.seen.keys c.loop-value.shared.keys c.note_term.new.seen.keys c.note_term.new.shared.keys) c.named.ensures c.in_ok-note_term.ensures)

pub returns : goal.returns
returns g c =
    let s = c.args.site.now in
    let values = c.values-values.result.now in
    subst (λ (ns : List ℕ). AreShared s.terms ns c.loop-value.shared.keys) c.values-values.ensures
    (all_noted s.terms values c.recall.ensures.numbering (subst (λ (ns : List ℕ). AreNodes s.terms ns) (sym c.values-values.ensures) c.recall.ensures.nodes) c.loop-value.value-index c.loop-value.seen.keys c.loop-value.shared.keys
    c.loop-value-test.false c.loop-value.auto.value-index-end c.loop-value.invariant)
