use Rattle.std.proofs.Common.{◌∙◌, ◌++◌, List, ap, sym, subst}
use Rattle.std.proofs.lemmas.List.{take_all}
use Rattle.std.specs.Prelude.{◌↔◌}
use Rattle.std.specs.List.{Contains}
use Rattle.rdf_model.specs.declared.ids.Ids.{Ids}
use Rattle.rdf_model.specs.declared.triple.Triple.{Triple}
use Rattle.rdf_model.specs.Numbers.{graph_of}
use Rattle.parallel_validate.specs.Named.{AreNamedTriples}
use Rattle.evidence_blocks.specs.Shown.{triples_in}
use Rattle.evidence_verdict.proofs.Gathered.{index_is_numbered, index_lists, more_listed, under_named}
use Rattle.evidence_verdict.proofs.listed.listed_graph.Goals as goal

pub push_triples-requires-clause-named : goal.push_triples-requires-clause-named
push_triples-requires-clause-named g c =
    let terms = g.N.Names.terms c.args.names.now in
    subst (λ (ts : List Triple). AreNamedTriples terms ts) (sym c.as_slice.ensures) (under_named terms c.args.looks.now c.loop-look.look-index c.look-item.result c.requires c.loop-look-test.true c.look-item.is)

pub loop-look-preserved : goal.loop-look-preserved
loop-look-preserved g c =
    let terms = g.N.Names.terms c.args.names.now in
    let old = c.loop-look.ids.items in
    let joined = c.in_ok-push_triples.ensures.triples ∙ ap (λ (ts : List Triple). graph_of terms old ++ ts) c.as_slice.ensures in (
      more_listed terms c.args.looks.now c.loop-look.look-index c.look-item.result old c.push_triples.new.ids.items c.loop-look-test.true c.look-item.is c.loop-look.invariant.0 joined,
      c.in_ok-push_triples.ensures.numbered,
    )

pub returns-clause-members : goal.returns-clause-members
returns-clause-members g c =
    let terms = g.N.Names.terms c.args.names.now in
    let all = c.loop-look.invariant.0 ∙ ap triples_in (take_all c.loop-look.look-index c.args.looks.now c.loop-look-test.false) in
    index_lists terms c.args.looks.now c.loop-look.ids.items c.in_ok-index.index (λ i. subst (λ (is : List Ids). Contains c.in_ok-index.index i ↔ Contains is i) c.deref.ensures.value (c.in_ok-index.ensures.members i)) all

pub returns-clause-numbered : goal.returns-clause-numbered
returns-clause-numbered g c = index_is_numbered (g.N.Names.terms c.args.names.now) c.args.looks.now c.loop-look.ids.items c.in_ok-index.index (λ i. subst (λ (is : List Ids). Contains c.in_ok-index.index i ↔ Contains is i) c.deref.ensures.value (c.in_ok-index.ensures.members i)) c.loop-look.invariant.1
