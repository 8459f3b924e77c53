use Rattle.std.proofs.Common.{sym, subst}
use Rattle.rdf_model.specs.declared.term.Term.{Term}
use Rattle.rdf_model.specs.declared.look.Look.{Look}
use Rattle.rdf_model.specs.Numbers.{graph_of}
use Rattle.result_evidence.specs.Standing.{HasNumbers}
use Rattle.result_evidence.proofs.Showing.{more_looks, more_triples}
use Rattle.result_evidence.proofs.shown.shown_looks.Goals as goal

pub shown_look-requires-clause-look : goal.shown_look-requires-clause-look
shown_look-requires-clause-look g c =
    subst (λ (l : Look Term). HasNumbers (g.N.Names.terms c.args.names.now) l) (sym c.look-item.is) (c.requires.looks c.loop-look.look-index c.look-item.result c.loop-look-test.true)

pub loop-look-preserved : goal.loop-look-preserved
loop-look-preserved g c =
    let looks = c.args.looks.now in
    let i = c.loop-look.look-index in
    let x = c.in_ok-shown_look.field-0 in
    record {
      looks = more_looks looks i c.loop-look.shown c.push.new.self x c.in_ok-push.ensures.ok c.look-item.result c.loop-look-test.true c.look-item.is c.loop-look.invariant.looks c.in_ok-shown_look.ensures.look;
      triples = more_triples looks i c.loop-look.shown c.push.new.self x c.in_ok-push.ensures.ok (graph_of (g.N.Names.terms c.args.names.now) (g.R.Triples.triples c.args.graph.now)) c.loop-look.invariant.triples c.in_ok-shown_look.ensures.triples;
    }
