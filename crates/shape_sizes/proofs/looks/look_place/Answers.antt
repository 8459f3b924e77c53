use Rattle.std.proofs.Common.{sym, subst}
use Rattle.rdf_model.specs.declared.term.Term.{Term}
use Rattle.shape_properties.specs.Syntax.{IsShape}
use Rattle.shape_sizes.specs.Counted.{IsReferredTo}
use Rattle.shape_sizes.specs.PathLooks.{IsCappedLook}
use Rattle.shape_sizes.proofs.looks.look_place.Goals as goal

pub returns : goal.returns
returns c =
    let same = c.in_ok-clone.ensures.cases in (
      (
        subst (λ (n : Term). IsShape c.args.graph.now n) (sym same) c.requires.node,
        subst (λ (n : Term). IsCappedLook c.args.graph.now n c.in_ok-own.own) (sym same) c.in_ok-own.ensures,
        subst (λ (n : Term). IsReferredTo c.args.graph.now c.args.parents.now n c.in_ok-to.to) (sym same) c.in_ok-to.ensures,
      ),
      same,
    )
