use Rattle.std.proofs.Common.{List, subst, sym}
use Rattle.std.specs.List.{All}
use Rattle.rdf_model.specs.declared.term.Term.{Term}
use Rattle.path_ast.specs.declared.path.Path.{Path}
use Rattle.path_ast.specs.PathReadings.{IsNamed, IsNamedPath}
use Rattle.shape_plans.proofs.Numbering.{ways_named}
use Rattle.shape_plans.proofs.looks.number_look.Goals as goal

pub number_way-requires : goal.number_way-requires
number_way-requires g c =
    let terms = g.N.Names.terms c.args.names.now in
    subst (λ (ps : List (Path Term)). All (IsNamedPath terms) ps) (sym c.as_slice.ensures) (ways_named (IsNamed terms) c.args.look.now.way c.requires.way)
