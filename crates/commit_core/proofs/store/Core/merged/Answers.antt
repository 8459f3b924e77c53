use Rattle.std.proofs.Common.{◌≡◌, ◌∙◌, List, ap, subst, sym}
use Rattle.rdf_model.specs.declared.triple.Triple.{Triple}
use Rattle.rdf_model.specs.Graphs.{after}
use Rattle.store_model.specs.Store.{RecordedStore}
use Rattle.blocking.specs.Sources.{PairsHaveShapes, some_blocks}
use Rattle.blocking.proofs.Blocking.{something_blocks}
use Rattle.data_graph.specs.DataGraphs.{NamedGraph, with_changes}
use Rattle.data_graph.specs.Pairs.{HasListing, IsAfterCheck}
use Rattle.commit_core.specs.Commits.{data_of}
use Rattle.commit_core.specs.Outcomes.{TellsBlocking}
use Rattle.commit_core.proofs.Outcomes.{pairs_tell}
use Rattle.commit_core.proofs.store.Core.merged.Goals as goal

pub pairs_block-blocks-requires : goal.pairs_block-blocks-requires
pairs_block-blocks-requires c =
    let s = c.args.self.now.state in
    let mode = c.args.self.now.limits.mode in
    let shapes : c.shapes.result.now ≡ s.shapes = c.shapes.ensures ∙ ap (λ (o : RecordedStore). o.state.shapes) c.self.view_is in
    subst (λ (ts : List Triple). PairsHaveShapes ts c.args.pairs.now) (sym shapes) (something_blocks mode s.named s.graph s.shapes c.requires.0 c.args.pairs.now c.requires.2).1

pub with_pairs-requires : goal.with_pairs-requires
with_pairs-requires c = subst (λ (o : RecordedStore). IsAfterCheck (data_of o) c.args.next c.args.pairs.now) (sym c.self.view_is) c.requires

pub returns : goal.returns
returns c =
    let s = c.args.self.now.state in
    let mode = c.args.self.now.limits.mode in
    let net = c.requires.0 in
    let pairs = c.args.pairs.now in
    let modes : c.self.inside.bounds.mode ≡ mode = ap (λ (o : RecordedStore). o.limits.mode) c.self.view_is in
    let shapes : c.shapes.result.now ≡ s.shapes = c.shapes.ensures ∙ ap (λ (o : RecordedStore). o.state.shapes) c.self.view_is in
    let next : c.args.next ≡ with_changes (data_of c.args.self.now) net = c.requires.1 in
    let listed : HasListing (after s.graph net) s.shapes = subst (λ (d : NamedGraph). HasListing d.triples d.shapes) (c.in_ok-graph.ensures ∙ next) c.recall_listing.ensures in
    let blocks : c.pairs_block-blocks.result ≡ some_blocks mode s.shapes pairs = c.pairs_block-blocks.ensures ∙ (λ i. some_blocks (modes i) (shapes i) pairs) in
    let told = pairs_tell mode s.named s.graph s.shapes net pairs c.pairs_block-blocks.result c.recall_consistent.ensures.sound.no_blocking c.requires.2 listed blocks in
    (c.in_ok-graph.ensures, subst (λ (d : NamedGraph). TellsBlocking mode d.triples d.shapes c.pairs_block-blocks.result) (sym next) told)
