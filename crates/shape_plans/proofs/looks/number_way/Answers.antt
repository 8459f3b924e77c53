use Rattle.std.proofs.Common.{◌∙◌, length, map, ap, subst, sym}
use Rattle.path_ast.specs.PathReadings.{IsBoundPath, defined_path, path_of}
use Rattle.shape_plans.proofs.Numbering.{way_bound, way_same}
use Rattle.shape_plans.proofs.looks.number_way.Goals as goal

pub returns-clause-bound : goal.returns-clause-bound
returns-clause-bound g c =
    let terms = g.N.Names.terms c.args.names.now in
    way_bound terms c.in_ok-new.field-0 c.in_ok-more.more (subst (IsBoundPath (length terms)) (sym c.in_ok-new.ensures.ok) c.in_ok-bound.ensures.in_range) c.in_ok-more.ensures.bound

pub returns-clause-same : goal.returns-clause-same
returns-clause-same g c =
    let terms = g.N.Names.terms c.args.names.now in
    way_same terms c.in_ok-new.field-0 c.in_ok-more.more c.in-Some.first.now c.in-Some.others.now (ap (path_of terms) c.in_ok-new.ensures.ok ∙ c.in_ok-bound.ensures.same) c.in_ok-more.ensures.same
    ∙ sym (ap (map defined_path) c.in-Some.ensures.cases.0)
