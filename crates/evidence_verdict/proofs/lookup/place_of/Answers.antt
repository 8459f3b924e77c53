use Rattle.std.proofs.Common.{List, sym, subst}
use Rattle.std.specs.List.{Contains}
use Rattle.rdf_model.specs.declared.term.Term.{Term}
use Rattle.evidence_verdict.proofs.Placed.{place_named}
use Rattle.evidence_verdict.proofs.lookup.place_of.Goals as goal

pub returns-in-None : goal.returns-in-None
returns-in-None g c =
    let e = c.args.evaluation.now in
    λ j r at is. c.in-None.ensures (subst (λ (t : Term). Contains (g.N.Names.terms c.args.names.now) t) is (subst (λ (ts : List Term). Contains ts r.node) (sym c.requires.names) (place_named e.terms e.shapes c.recall.ensures.bound j r at)))
