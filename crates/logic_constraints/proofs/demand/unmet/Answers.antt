use Rattle.std.proofs.Common.{◌∙◌, ℕ, List, Bool, length, map, ap, sym, subst}
use Rattle.std.proofs.lemmas.Result.{IfOk-weaker}
use Rattle.shape_model.specs.Components.{ForEach}
use Rattle.component_rows.specs.Listed.{Lists}
use Rattle.component_rows.specs.Nodes.{IsAnswered}
use Rattle.component_rows.specs.Sites.{at_values, site_row}
use Rattle.component_rows.proofs.Told.{refused_where}
use Rattle.logic_constraints.specs.Demands.{AreMet, Meets}
use Rattle.logic_constraints.proofs.Conforming.{Unmet, met_answers}
use Rattle.logic_constraints.proofs.demand.unmet.Goals as goal

pub are_met-requires : goal.are_met-requires
are_met-requires g c = λ a h. c.requires a h ∙ ap (λ (ns : List ℕ). length ns) (sym c.values-places.ensures)

pub refused-requires : goal.refused-requires
refused-requires g c = ap (λ (met : List Bool). length met) c.deref.ensures.value ∙ c.in_ok-met.ensures.as_many ∙ ap (λ (ns : List ℕ). length ns) c.values-places.ensures

pub returns : goal.returns
returns g c =
    let s = c.args.site.now in
    let row = site_row c.args.component s in
    let answers : List (List Bool) = map (λ a. a.items) c.args.answers.now in
    let met = subst (λ (p : List ℕ × List Bool). AreMet c.args.demand (length p.0) answers p.1) (λ i. (c.values-places.ensures i, sym c.deref.ensures.value i)) c.in_ok-met.ensures in
    IfOk-weaker c.refused.result
    (λ rows. Lists (ForEach (at_values s) row (λ v. IsAnswered s.terms s.values c.deref.result.now v → ⊥)) rows.items)
    (λ rows. Lists (Unmet s.terms s.values answers row c.args.demand) rows.items)
    (λ rows h. refused_where (Meets c.args.demand s.terms s.values answers) s.terms s.values c.deref.result.now
    (met_answers s.terms c.recall.ensures.numbering s.values c.recall.ensures.nodes answers c.args.demand c.deref.result.now met) row rows.items h)
    c.refused.ensures
