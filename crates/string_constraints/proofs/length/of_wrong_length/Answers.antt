use Rattle.std.proofs.Common.{◌≡◌, Option, subst}
use Rattle.std.specs.Prelude.{ℤ}
use Rattle.std.proofs.lemmas.Result.{IfOk-weaker}
use Rattle.rdf_model.specs.declared.term.Term.{Term}
use Rattle.rdf_model.specs.Numbers.{term_at}
use Rattle.shape_model.specs.Components.{ForEach}
use Rattle.shape_model.specs.TermTests.{count_of}
use Rattle.component_rows.specs.Listed.{Lists}
use Rattle.component_rows.specs.Sites.{at_values, site_row}
use Rattle.component_rows.proofs.Collecting.{lists_same}
use Rattle.string_constraints.specs.Lengths.{HasWrongLength}
use Rattle.string_constraints.proofs.Tags.{stable_length}
use Rattle.string_constraints.proofs.length.of_wrong_length.Goals as goal

pub returns : goal.returns
returns g c =
    let s = c.args.site.now in
    let nodes = at_values s in
    let row = site_row c.args.component s in
    let wrong = HasWrongLength c.args.end c.count_of-count.result in
    IfOk-weaker c.failing.result (λ rows. Lists (ForEach nodes row (λ v. (wrong v → ⊥) → ⊥)) rows.items)
    (λ rows. Lists (ForEach nodes row (HasWrongLength c.args.end (count_of (term_at s.terms s.parameter)))) rows.items)
    (λ rows h. subst (λ (count : Option ℤ). Lists (ForEach nodes row (HasWrongLength c.args.end count)) rows.items)
    (subst (λ (q : Term). c.count_of-count.result ≡ count_of q) c.parameter_term.ensures c.count_of-count.ensures)
    (lists_same (ForEach nodes row (λ v. (wrong v → ⊥) → ⊥)) (ForEach nodes row wrong) rows.items (λ r. (
      λ p. (p.0, p.1, stable_length c.args.end c.count_of-count.result p.0 p.2, p.3),
      λ p. (p.0, p.1, (λ no. no p.2), p.3),
    )) h))
    c.failing.ensures
