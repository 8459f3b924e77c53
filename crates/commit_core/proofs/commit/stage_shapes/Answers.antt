use Rattle.std.proofs.Common.{List, Option, subst, sym}
use Rattle.rdf_model.specs.declared.triple.Triple.{Triple}
use Rattle.store_model.specs.Store.{StagedNamed}
use Rattle.parallel_validate.specs.Named.{AreNamedTriples}
use Rattle.commit_core.proofs.NamedTerms.{staged_named}
use Rattle.commit_core.proofs.commit.stage_shapes.Goals as goal

pub replace_shapes-requires : goal.replace_shapes-requires
replace_shapes-requires c =
    let terms = c.args.graph.now.terms in
    let named = subst (λ (staged : Option (List Triple)). StagedNamed terms staged) c.in-Some.is c.requires in
    subst (λ (ts : List Triple). AreNamedTriples terms ts) (sym c.in_ok-share-in-Some.ensures) (staged_named terms _ named)
