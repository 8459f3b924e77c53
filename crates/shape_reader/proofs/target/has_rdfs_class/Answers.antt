use Rattle.std.proofs.Common.{◌≡◌, refl, arith, subst}
use Rattle.std.specs.List.{Contains}
use Rattle.rdf_model.specs.declared.term.Term.{Term}
use Rattle.shape_model.specs.Vocabulary.{rdfs_class}
use Rattle.shape_syntax.proofs.Scans.{read_in, none_more, in_all}
use Rattle.shape_reader.proofs.target.has_rdfs_class.Goals as goal

pub returns-then-is_rdfs_class : goal.returns-then-is_rdfs_class
returns-then-is_rdfs_class c = (
  λ h. subst (λ (t : Term). Contains c.args.classes.now t) (c.is_rdfs_class.ensures.0 c.if-is_rdfs_class.true) (read_in c.args.classes.now c.loop-class.class-index c.class-item.result (omega arith) c.class-item.is),
  λ i. refl,
)

pub loop-class-preserved : goal.loop-class-preserved
loop-class-preserved c = none_more (λ (t : Term). t ≡ rdfs_class) c.args.classes.now c.loop-class.class-index c.class-item.result (omega arith) c.class-item.is c.loop-class.invariant (λ h. let k = c.is_rdfs_class.ensures.1 h in cc)

pub returns : goal.returns
returns c = (
  λ h. cc,
  λ i. absurd (c.loop-class.invariant rdfs_class (in_all c.args.classes.now c.loop-class.class-index (omega arith) rdfs_class i) refl),
)
