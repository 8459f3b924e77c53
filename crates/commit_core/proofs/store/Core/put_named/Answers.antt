use Rattle.std.proofs.Common.{sym, subst}
use Rattle.store_model.specs.Store.{RecordedStore}
use Rattle.event_history.specs.Named.{terms_at}
use Rattle.commit_core.specs.Commits.{data_of}
use Rattle.commit_core.specs.Naming.{IsNaming}
use Rattle.commit_core.proofs.Consistency.{consistent_named, takes_named}
use Rattle.commit_core.proofs.NamedTerms.{block_begins, block_follows}
use Rattle.commit_core.proofs.store.Core.put_named.Goals as goal

pub push_named-requires-clause-more : goal.push_named-requires-clause-more
push_named-requires-clause-more c =
    let named = c.args.named in
    let ts = terms_at named.names.terms c.args.block.numbers in
    let is = subst (λ (o : RecordedStore). IsNaming c.args.block.kind (data_of o) o.state.given ts named) (sym c.self.view_is) c.requires.named in
    rw c.into_parts-graph.ensures (block_begins _ _ _ _ _ is _ c.self.invariant.1)

pub push_named-requires-clause-named : goal.push_named-requires-clause-named
push_named-requires-clause-named c = rw c.into_parts-graph.ensures c.requires.numbers

pub invariant_of-self : goal.invariant_of-self
invariant_of-self c =
    let named = c.args.named in
    let ts = terms_at named.names.terms c.args.block.numbers in
    let is = subst (λ (o : RecordedStore). IsNaming c.args.block.kind (data_of o) o.state.given ts named) (sym c.self.view_is) c.requires.named in
    rw (c.push_named.ensures, c.into_parts-graph.ensures, is.given_is) (consistent_named _ c.self.inside.graph named.graph _ _ _ _ _ _ _ _ _ _ c.self.invariant.0 c.self.view_is c.requires.opened c.requires.known is.graph_is is.fits, is.names_are, block_follows _ _ _ _ _ is _ c.self.invariant.2)

pub returns-clause-step : goal.returns-clause-step
returns-clause-step c =
    let named = c.args.named in
    let ts = terms_at named.names.terms c.args.block.numbers in
    let is = subst (λ (o : RecordedStore). IsNaming c.args.block.kind (data_of o) o.state.given ts named) (sym c.self.view_is) c.requires.named in
    rw (c.push_named.ensures, c.into_parts-graph.ensures, is.given_is) (takes_named _ c.self.inside.graph named.graph _ _ _ _ _ _ _ _ _ _ c.self.invariant.0 c.self.view_is c.requires.opened c.requires.known is.graph_is is.fits)

pub returns-clause-named : goal.returns-clause-named
returns-clause-named c = rw c.into_parts-graph.ensures (sym c.requires.named.names_are)
