use Rattle.std.proofs.Common.{List, subst, sym}
use Rattle.std.specs.List.{Contains}
use Rattle.collections.specs.Ordered.{IsAscending}
use Rattle.rdf_model.specs.declared.term.Term.{Term}
use Rattle.rdf_model.specs.Terms.{term_cmp}
use Rattle.shape_properties.proofs.Defined.{shape_same}
use Rattle.shape_properties.proofs.nodes.is_shape.Goals as goal

pub is_listed-requires : goal.is_listed-requires
is_listed-requires c = subst (λ (ns : List Term). IsAscending term_cmp ns) (sym c.as_slice.ensures.value) c.in_ok-nodes.ensures.ascending

pub returns : goal.returns
returns c =
    let n = c.args.node.now in
    let same = shape_same c.args.graph.now n in
    let listed = c.in_ok-nodes.ensures.members n in (
      λ h. same.0 (listed.0 (subst (λ (ns : List Term). Contains ns n) c.as_slice.ensures.value (c.is_listed.ensures.0 h))),
      λ h. c.is_listed.ensures.1 (subst (λ (ns : List Term). Contains ns n) (sym c.as_slice.ensures.value) (listed.1 (same.1 h))),
    )
