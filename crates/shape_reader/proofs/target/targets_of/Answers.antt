use Rattle.std.proofs.Common.{inl, inr}
use Rattle.rdf_model.specs.Terms.{triple_cmp}
use Rattle.rdf_model.specs.Orders.{triple_total}
use Rattle.shape_ast.specs.declared.target.Target.TheVariants.{ImplicitClass}
use Rattle.shape_ast.specs.Once.{target_triple}
use Rattle.shape_ast.proofs.Distinct.{distinct_mapped}
use Rattle.shape_reader.proofs.Told.{declared}
use Rattle.shape_reader.proofs.target.targets_of.Goals as goal

pub returns : goal.returns
returns c =
    let s = c.args.shape.now.graph in
    let n = c.args.shape.now.node in record {
      said = λ x.
          let declared = c.in_ok-targets.ensures.said x in
          let all = c.in_ok-push_implicit.ensures.said x in (
            λ d. elim (all.0 d) [ inl o ↦ inl (declared.0 o) | inr i ↦ inr i ],
            λ h. all.1 (elim h [ inl v ↦ inl (declared.1 v) | inr i ↦ inr i ]),
          );
      once = c.in_ok-push_implicit.ensures.once
          (λ d. let h = (c.in_ok-targets.ensures.said ImplicitClass).0 d in declared s n h.0 h.1 ImplicitClass h.2 h.3)
          (distinct_mapped triple_cmp triple_total (target_triple n) c.in_ok-targets.targets c.in_ok-targets.ensures.by);
    }
