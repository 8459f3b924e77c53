use Rattle.std.proofs.Common.{List, subst}
use Rattle.std.specs.List.{flat_map}
use Rattle.rdf_model.specs.declared.triple.Triple.{Triple}
use Rattle.store_model.specs.Store.{terms_of}
use Rattle.commit_core.specs.Naming.{IsListNaming}
use Rattle.commit_core.proofs.name_list.name_once.Goals as goal

pub returns-in-Ok : goal.returns-in-Ok
returns-in-Ok c =
    let n = c.in-Ok.named in
    subst (λ (ts : List Triple). IsListNaming c.args.kind c.args.graph.now c.args.given.now (flat_map terms_of ts) n.named n.parts) c.parts.ensures.triples c.in-Ok.ensures.named
