use Rattle.rdf_model.specs.declared.term.Term.{Term}
use Rattle.shape_model.specs.Instances.{Instance}
use Rattle.shape_model.specs.declared.component.Component.TheVariants as components
use Rattle.plain_values.proofs.Made.{each_outside}
use Rattle.plain_values.proofs.others.class_rows.Goals as goal

pub returns : goal.returns
returns c =
    each_outside c.args.at.now components.Class c.args.parameter.now (λ (v : Term). Instance c.args.at.now.graph.now v c.args.parameter.now) c.in_ok-instances.instances c.in_ok-rows.rows.items c.in_ok-instances.ensures c.in_ok-rows.ensures
