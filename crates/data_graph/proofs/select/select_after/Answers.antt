use Rattle.std.proofs.Common.{Global, List, Vec}
use Rattle.collections.specs.Ordered.{IsAscending}
use Rattle.rdf_model.specs.declared.term.Term.{Term}
use Rattle.rdf_model.specs.declared.triple.Triple.{Triple}
use Rattle.rdf_model.specs.Graphs.{after}
use Rattle.rdf_model.specs.Numbers.{graph_of}
use Rattle.rdf_model.specs.Terms.{triple_cmp}
use Rattle.bgp_query.specs.declared.fault.JoinFault.{JoinFault}
use Rattle.bgp_query.specs.Selected.{AreSelected, IsJoinFault}
use Rattle.data_graph.specs.DataGraphs.{IsIndexOf}
use Rattle.data_graph.proofs.Selecting.{err_as, later_fault, later_index, later_selected, ok_as}
use Rattle.data_graph.proofs.select.select_after.Goals as goal

pub select_terms-requires-clause-numbered : goal.select_terms-requires-clause-numbered
select_terms-requires-clause-numbered c =
    let grown = c.in-Ok.ensures.grown in
    (later_index c.args.names.now.terms c.in-Ok.more.terms grown.0 grown.1 c.args.index.now c.in_ok-later.later c.args.net.now c.in_ok-later.ensures c.requires.0 c.requires.1 c.requires.2).numbered

pub returns-clause-rows : goal.returns-clause-rows
returns-clause-rows c =
    let terms = c.args.names.now.terms in
    let ids = c.args.index.now in
    let net = c.args.net.now in
    let ps = c.args.patterns.now in
    let more = c.in-Ok.more.terms in
    let grown = c.in-Ok.ensures.grown in
    let later = c.in_ok-later.later in
    ok_as c.select_terms.result (λ (rows : Vec (List Term) Global). AreSelected (graph_of more later) ps rows.items)
    (λ rows. (g : List Triple) → IsAscending triple_cmp g → IsIndexOf terms ids g → AreSelected (after g net) ps rows.items)
    (λ rows s. later_selected terms more grown.0 grown.1 ids later net c.in_ok-later.ensures ps rows.items s) c.select_terms.ensures.rows

pub returns-clause-fault : goal.returns-clause-fault
returns-clause-fault c =
    let terms = c.args.names.now.terms in
    let ids = c.args.index.now in
    let net = c.args.net.now in
    let ps = c.args.patterns.now in
    let more = c.in-Ok.more.terms in
    let grown = c.in-Ok.ensures.grown in
    let later = c.in_ok-later.later in
    err_as c.select_terms.result (λ (fault : JoinFault). IsJoinFault fault (graph_of more later) ps)
    (λ fault. (g : List Triple) → IsAscending triple_cmp g → IsIndexOf terms ids g → IsJoinFault fault (after g net) ps)
    (λ fault s. later_fault terms more grown.0 grown.1 ids later net c.in_ok-later.ensures ps fault s) c.select_terms.ensures.fault
