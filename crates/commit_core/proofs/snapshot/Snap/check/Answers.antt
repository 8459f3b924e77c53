use Rattle.std.proofs.Common.{ap, sym, subst}
use Rattle.std.specs.List.{AllByRecursion}
use Rattle.parallel_validate.specs.Counting.{GrowsByCount}
use Rattle.parallel_validate.specs.Verdicts.{IsEvaluated}
use Rattle.store_model.specs.Snapshots.{Snapshot}
use Rattle.store_model.specs.Store.{AreNamed, looked_at}
use Rattle.data_graph.specs.DataGraphs.{AreNamedChanges, NamedGraph}
use Rattle.commit_core.specs.Verdicts.{IsPairedCheck}
use Rattle.commit_core.proofs.NamedTerms.{net_named}
use Rattle.commit_core.proofs.snapshot.Snap.check.Goals as goal

pub paired_after-requires : goal.paired_after-requires
paired_after-requires g c = (c.type_bounds.sync-T, subst (λ (d : NamedGraph). AreNamedChanges d.terms c.args.net.now) (sym c.graph.ensures) (subst (λ (s : Snapshot). AreNamedChanges s.named c.args.net.now) (sym c.self.view_is) (net_named c.args.self.now.named c.args.net.now c.requires)))

pub returns-clause-head : goal.returns-clause-head
returns-clause-head g c = ap (λ (s : Snapshot). s.number) c.self.view_is

pub returns-clause-check : goal.returns-clause-check
returns-clause-check g c =
    let net = c.args.net.now in
    let found = c.in_ok-found.found in
    let inside : IsPairedCheck c.graph.result.now.terms c.graph.result.now.triples c.graph.result.now.shapes net found.looks found.pairs = record { looks = c.in_ok-found.ensures.looks; checks = c.in_ok-found.ensures.checks } in
    let own = subst (λ (d : NamedGraph). IsPairedCheck d.terms d.triples d.shapes net found.looks found.pairs) c.graph.ensures inside in
    rw c.into_parts-pairs.ensures (subst (λ (s : Snapshot). IsPairedCheck s.named s.graph s.shapes net found.looks found.pairs) c.self.view_is own)

pub returns-clause-named : goal.returns-clause-named
returns-clause-named g c =
    let found = c.in_ok-found.found in
    let inside = subst (λ (d : NamedGraph). AllByRecursion (λ look. AreNamed d.terms (looked_at look)) found.looks) c.graph.ensures c.in_ok-found.ensures.named in
    let own = subst (λ (s : Snapshot). AllByRecursion (λ look. AreNamed s.named (looked_at look)) found.looks) c.self.view_is inside in
    rw c.into_parts-pairs.ensures own

pub returns-clause-steps : goal.returns-clause-steps
returns-clause-steps g c =
    let net = c.args.net.now in
    let inside = subst (λ (d : NamedGraph). GrowsByCount (IsEvaluated d.triples d.shapes net) c.args.steps.now c.paired_after.new.steps) c.graph.ensures c.in_ok-found.ensures.steps in
    subst (λ (s : Snapshot). GrowsByCount (IsEvaluated s.graph s.shapes net) c.args.steps.now c.paired_after.new.steps) c.self.view_is inside
