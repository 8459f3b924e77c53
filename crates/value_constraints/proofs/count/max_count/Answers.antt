use Rattle.std.proofs.Common.{◌≡◌, List, ℕ, length, subst}
use Rattle.std.proofs.lemmas.Result.{IfOk-weaker}
use Rattle.rdf_model.specs.Numbers.{term_at}
use Rattle.shape_model.specs.Components.{ForCount, found_alone}
use Rattle.shape_model.specs.TermTests.{count_of}
use Rattle.shape_model.specs.declared.component.Component.TheVariants as components
use Rattle.component_rows.specs.Bounds.{IsWrong}
use Rattle.component_rows.specs.Listed.{Lists}
use Rattle.component_rows.specs.Nodes.{HasNode}
use Rattle.component_rows.specs.Sites.{site_row}
use Rattle.component_rows.specs.declared.bound.End.TheVariants.{Most}
use Rattle.component_rows.proofs.Collecting.{lists_same}
use Rattle.component_rows.proofs.Numbers.{counted, one_count}
use Rattle.value_constraints.proofs.count.max_count.Goals as goal

pub returns : goal.returns
returns g c =
    let s = c.args.site.now in
    let q = term_at s.terms s.parameter in
    let row = site_row components.MaxCount s in
    IfOk-weaker c.counted.result
    (λ rows. Lists (λ r. IsWrong Most (count_of q) (length c.values.result.now) × (r ≡ row found_alone)) rows.items)
    (λ rows. Lists (ForCount row (HasNode s.terms s.values) (IsWrong Most (count_of q))) rows.items)
    (λ rows h. lists_same (λ r. IsWrong Most (count_of q) (length s.values) × (r ≡ row found_alone)) (ForCount row (HasNode s.terms s.values) (IsWrong Most (count_of q))) rows.items (λ r. (
      λ p. (length s.values, counted s.terms c.recall.ensures.numbering s.values c.recall.ensures.nodes, p.0, p.1),
      λ p. (subst (λ (n : ℕ). IsWrong Most (count_of q) n) (one_count (HasNode s.terms s.values) p.0 (length s.values) p.1 (counted s.terms c.recall.ensures.numbering s.values c.recall.ensures.nodes)) p.2, p.3),
    )) (subst (λ (ns : List ℕ). Lists (λ r. IsWrong Most (count_of q) (length ns) × (r ≡ row found_alone)) rows.items) c.values.ensures h))
    c.counted.ensures
