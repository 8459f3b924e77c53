use Rattle.std.proofs.Common.{sym, subst, inl, inr}
use Rattle.rdf_model.specs.declared.term.Term.{Term}
use Rattle.shape_model.specs.Triples.{IsIri}
use Rattle.shape_syntax.specs.PathNodes.{IsPath}
use Rattle.shape_sizes.specs.PathLooks.{IsMadeOf}
use Rattle.shape_sizes.proofs.path_looks.path_place.Goals as goal

pub returns-then-is_iri : goal.returns-then-is_iri
returns-then-is_iri c =
    let made = c.in_ok-place.ensures in
    ((subst (λ (n : Term). IsPath c.args.graph.now n) (sym made.0) c.requires.path, inl (subst (λ (n : Term). IsIri n) (sym made.0) (c.is_iri.ensures.0 c.if-is_iri.true), made.1, made.2)), made.0)

pub returns : goal.returns
returns c =
    let made = c.in_ok-place-2.ensures in (
      (
        subst (λ (n : Term). IsPath c.args.graph.now n) (sym made.0) c.requires.path,
        inr (
          (λ iri. let k = c.is_iri.ensures.1 (subst (λ (n : Term). IsIri n) made.0 iri) in cc),
          made.1,
          subst (λ (n : Term). IsMadeOf c.args.graph.now n c.in_ok-place-2.place.to) (sym made.0) made.2,
        ),
      ),
      made.0,
    )
