use Rattle.std.proofs.Common.{◌≡◌, refl, arith}
use Rattle.rdf_model.specs.declared.term.Term.{Term}
use Rattle.rdf_model.specs.declared.term.Term.TheVariants.{Iri}
use Rattle.shape_syntax.proofs.Scans.{read_in, none_more, in_all, member_contains, equal_in}
use Rattle.shape_properties.proofs.terms.has_class.Goals as goal

pub returns-then-is_named : goal.returns-then-is_named
returns-then-is_named c = (
  λ h. equal_in c.args.classes.now _ (Iri c.args.iri.now) (c.is_named.ensures.0 c.if-is_named.true) (read_in c.args.classes.now c.loop-class.class-index c.class-item.result (omega arith) c.class-item.is),
  λ i. refl,
)

pub loop-class-preserved : goal.loop-class-preserved
loop-class-preserved c =
    none_more (λ (t : Term). t ≡ Iri c.args.iri.now) c.args.classes.now c.loop-class.class-index c.class-item.result (omega arith) c.class-item.is c.loop-class.invariant (λ e. let k = c.is_named.ensures.1 e in cc)

pub returns : goal.returns
returns c = (
  λ h. cc,
  λ i. absurd (c.loop-class.invariant (Iri c.args.iri.now) (in_all c.args.classes.now c.loop-class.class-index (omega arith) (Iri c.args.iri.now) (member_contains c.args.classes.now (Iri c.args.iri.now) i)) refl),
)
