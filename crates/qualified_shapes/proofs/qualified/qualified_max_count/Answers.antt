use Rattle.std.proofs.Common.{◌≡◌, ◌∙◌, ℕ, List, Bool, ◌∷◌, length, map, ap, subst, sym}
use Rattle.std.proofs.lemmas.Result.{IfOk-weaker}
use Rattle.rdf_model.specs.Numbers.{term_at}
use Rattle.shape_model.specs.TermTests.{count_of}
use Rattle.shape_model.specs.Components.{ForQualifiedCount, found_alone}
use Rattle.shape_model.specs.declared.component.Component.TheVariants as components
use Rattle.component_rows.specs.Answers.{Tells}
use Rattle.component_rows.specs.Conformance.{how_many, told_shapes}
use Rattle.component_rows.specs.Listed.{Lists}
use Rattle.component_rows.specs.Sites.{site_row}
use Rattle.component_rows.proofs.Tally.{each_of}
use Rattle.component_rows.specs.declared.bound.End.TheVariants.{Most}
use Rattle.component_rows.specs.Bounds.{IsWrong}
use Rattle.qualified_shapes.specs.Qualified.{Qualifies, with_qualified}
use Rattle.qualified_shapes.proofs.Counting.{qualified_rows}
use Rattle.qualified_shapes.proofs.qualified.qualified_max_count.Goals as goal

pub are_qualified-requires-clause-places : goal.are_qualified-requires-clause-places
are_qualified-requires-clause-places g c = λ a h.
    each_of (λ a. a.items) (length c.args.site.now.values) c.args.answers.now c.requires.answers.each a h ∙ ap (λ (ns : List ℕ). length ns) (sym c.values-places.ensures)

pub returns : goal.returns
returns g c =
    let s = c.args.site.now in
    let q = term_at s.terms s.parameter in
    let row = site_row components.QualifiedMaxCount s in
    let lists : List (List Bool) = map (λ a. a.items) c.args.answers.now in
    let met = c.in_ok-are_qualified.field-0.items in
    let tells = subst (λ (ns : List ℕ). Tells (Qualifies lists) (length ns) met) c.values-places.ensures c.in_ok-are_qualified.ensures in
    let number : c.count_all-number.result ≡ how_many met = c.count_all-number.ensures ∙ ap how_many c.deref.ensures.value in
    let y = with_qualified (term_at s.terms c.args.shape) (map (term_at s.terms) c.args.siblings.now) in
    IfOk-weaker c.counted.result
    (λ rows. Lists (λ r. IsWrong Most (count_of q) c.count_all-number.result × (r ≡ row found_alone)) rows.items)
    (λ rows. Lists (ForQualifiedCount (told_shapes s.terms (c.args.shape ∷ c.args.siblings.now) s.values lists) y row (IsWrong Most (count_of q))) rows.items)
    (λ rows h. qualified_rows s.terms c.recall.ensures.numbering s.values c.recall.ensures.nodes lists c.args.shape c.requires.shape c.args.siblings.now c.requires.siblings c.requires.answers row q Most met tells rows.items
    (subst (λ (n : ℕ). Lists (λ r. IsWrong Most (count_of q) n × (r ≡ row found_alone)) rows.items) number h))
    c.counted.ensures
