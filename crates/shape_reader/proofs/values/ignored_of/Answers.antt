use Rattle.std.proofs.Common.{[], refl, subst}
use Rattle.rdf_model.specs.declared.term.Term.{Term}
use Rattle.shape_model.specs.ShapeSyntax.{ListOf}
use Rattle.shape_properties.specs.declared.property.ShapeProperty.TheVariants as vocabulary
use Rattle.shape_rules.proofs.SingleValues.{one_value}
use Rattle.shape_reader.proofs.Gathered.{ignored_none, ignored_some}
use Rattle.shape_reader.proofs.values.ignored_of.Goals as goal

pub returns-in_default : goal.returns-in_default
returns-in_default c = rw c.new.ensures (ignored_none c.args.shape.now.graph [] c.args.shape.now.node (λ t g. c.in_default.ensures g.0 g.1))

pub returns-in-Some-2 : goal.returns-in-Some-2
returns-in-Some-2 c =
    let one = one_value c.args.shape.now.graph c.recall.ensures.well_formed c.args.shape.now.node c.recall.ensures.shape vocabulary.IgnoredProperties refl in
    ignored_some c.args.shape.now.graph [] c.args.shape.now.node c.in-Some.head.now c.in-Some-2.members one c.in-Some.ensures (rw c.in-Some-2.is at c.in_ok-members.ensures)

pub returns-in-None : goal.returns-in-None
returns-in-None c =
    let s = c.args.shape.now.graph in
    let n = c.args.shape.now.node in
    let one = one_value s c.recall.ensures.well_formed n c.recall.ensures.shape vocabulary.IgnoredProperties refl in
    let none = rw c.in-None.is at c.in_ok-members.ensures in
    rw c.new-in-None.ensures (ignored_none s [] n (λ t g. none g.2.0 (subst (λ (u : Term). ListOf s u g.2.0) (one g.0 c.in-Some.head.now g.1 c.in-Some.ensures) g.2.1)))
