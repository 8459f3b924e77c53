use Rattle.std.proofs.Common.{◌≡◌, ◌∙◌, true, List, ap, sym, subst}
use Rattle.rdf_model.specs.declared.ids.Ids.{Ids}
use Rattle.rdf_model.specs.declared.triple.Triple.{Triple}
use Rattle.shape_model.specs.Validation.{Listing}
use Rattle.store_model.specs.Blocking.{has_blocking}
use Rattle.store_model.specs.Store.{StagedNamed, shapes_under}
use Rattle.data_graph.specs.DataGraphs.{NamedGraph, with_shapes}
use Rattle.data_graph.specs.Pairs.{HasListing}
use Rattle.triple_index.specs.declared.change.NumberedChange.{NumberedChange}
use Rattle.commit_core.specs.Commits.{AreChanged, AreNumberedChanges, committed_graph, data_of}
use Rattle.commit_core.specs.Outcomes.{TellsBlocking}
use Rattle.commit_core.proofs.Outcomes.{blocking_listed, none_listed}
use Rattle.commit_core.proofs.store.Core.judge.Goals as goal

pub stage_shapes-requires : goal.stage_shapes-requires
stage_shapes-requires g c =
    let staged = c.args.checked.now.transaction.staged in
    subst (λ (d : NamedGraph). StagedNamed d.terms staged) (sym c.requires.next) c.requires.committable.staged

pub validated-requires-clause-next : goal.validated-requires-clause-next
validated-requires-clause-next g c κs within =
    let x = c.args.checked.now.transaction in
    c.in_ok-stage_shapes.ensures ∙ ap (λ (d : NamedGraph). with_shapes d (shapes_under d.shapes x.staged)) c.requires.next

pub returns-then-blocks-clause-judged : goal.returns-then-blocks-clause-judged
returns-then-blocks-clause-judged g c =
    let x = c.args.checked.now.transaction in
    let mode = c.args.self.now.limits.mode in
    let own = committed_graph (data_of c.args.self.now) x in
    let staged : c.stage_shapes.new.graph ≡ own = c.in_ok-stage_shapes.ensures ∙ ap (λ (d : NamedGraph). with_shapes d (shapes_under d.shapes x.staged)) c.requires.next in
    let outcome = c.in_ok-outcome.outcome in
    let p = c.in_ok-refusal.refusal in
    let next : outcome.graph ≡ own = c.in_ok-outcome.ensures.outcome.0 ∙ staged in
    let shapes : p.shapes ≡ own.shapes = c.in_ok-refusal.ensures.same.1 ∙ ap (λ (d : NamedGraph). d.shapes) next in
    let listing : Listing own.triples own.shapes p.rows = subst (λ (d : NamedGraph). Listing d.triples d.shapes p.rows) next c.in_ok-refusal.ensures.listing in
    let told : TellsBlocking mode own.triples own.shapes outcome.blocks = subst (λ (d : NamedGraph). TellsBlocking mode d.triples d.shapes outcome.blocks) staged c.in_ok-outcome.ensures.outcome.1 in
    let some : has_blocking mode own.shapes p.rows ≡ true = blocking_listed mode own.triples own.shapes p.rows outcome.blocks told c.if-blocks.true listing in
    (shapes, subst (λ (ts : List Triple). Listing own.triples ts p.rows) (sym shapes) listing, subst (λ (ts : List Triple). has_blocking mode ts p.rows ≡ true) (sym shapes) some, c.in_ok-refusal.ensures.same.0)

pub returns-clause-judged : goal.returns-clause-judged
returns-clause-judged g c =
    let e = c.accepting.ensures in
    let x = c.args.checked.now.transaction in
    let mode = c.args.self.now.limits.mode in
    let own = committed_graph (data_of c.args.self.now) x in
    let staged : c.stage_shapes.new.graph ≡ own = c.in_ok-stage_shapes.ensures ∙ ap (λ (d : NamedGraph). with_shapes d (shapes_under d.shapes x.staged)) c.requires.next in
    let outcome = c.in_ok-outcome.outcome in
    let next : c.into_graph-validated.result ≡ own = c.into_graph-validated.ensures ∙ c.in_ok-outcome.ensures.outcome.0 ∙ staged in
    let listed : HasListing own.triples own.shapes = subst (λ (d : NamedGraph). HasListing d.triples d.shapes) next c.recall_listing.ensures in
    let told : TellsBlocking mode own.triples own.shapes outcome.blocks = subst (λ (d : NamedGraph). TellsBlocking mode d.triples d.shapes outcome.blocks) staged c.in_ok-outcome.ensures.outcome.1 in
    let none = none_listed mode own.triples own.shapes listed.0 outcome.blocks told c.if-blocks.false listed.1 in
    ((listed.0, listed.1, none), e.0 ∙ next, subst (λ (ids : List Ids). AreChanged (data_of c.args.self.now) x.net ids) (sym e.1) c.requires.changed, e.2, subst (λ (ns : List NumberedChange). AreNumberedChanges (data_of c.args.self.now) x.net ns) (sym e.3) c.requires.net)
