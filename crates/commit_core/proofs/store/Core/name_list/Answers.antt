use Rattle.std.proofs.Common.{◌≡◌, [], List, subst, sym}
use Rattle.std.specs.List.{flat_map}
use Rattle.rdf_model.specs.declared.term.Term.{Term}
use Rattle.store_model.specs.Nodes.{unknown_by}
use Rattle.store_model.specs.Store.{RecordedStore, terms_of}
use Rattle.commit_core.specs.Commits.{data_of}
use Rattle.commit_core.specs.Naming.{IsNaming}
use Rattle.commit_core.proofs.NamedTerms.{block_has, block_told}
use Rattle.commit_core.proofs.store.Core.name_list.Goals as goal

pub put_named-requires-clause-known : goal.put_named-requires-clause-known
put_named-requires-clause-known c =
    let once = c.in-Some.once in
    let is = rw c.in-Some.is at c.in_ok-once.ensures in
    let told = block_told _ _ _ _ once.named is.naming once.parts is.numbers_are in
    let known = subst (λ (o : RecordedStore). unknown_by c.args.kind o.state.given (flat_map terms_of c.args.list.now) ≡ []) c.self.view_is is.known in
    rw c.into_parts-named.ensures (subst (λ (ts : List Term). unknown_by c.args.kind c.args.self.now.state.given ts ≡ []) (sym told) known)

pub put_named-requires-clause-named : goal.put_named-requires-clause-named
put_named-requires-clause-named c =
    let once = c.in-Some.once in
    let is = rw c.in-Some.is at c.in_ok-once.ensures in
    let told = block_told _ _ _ _ once.named is.naming once.parts is.numbers_are in
    let own = subst (λ (o : RecordedStore). IsNaming c.args.kind (data_of o) o.state.given (flat_map terms_of c.args.list.now) once.named) c.self.view_is is.naming in
    rw c.into_parts-named.ensures (subst (λ (ts : List Term). IsNaming c.args.kind (data_of c.args.self.now) c.args.self.now.state.given ts once.named) (sym told) own)

pub put_named-requires-clause-numbers : goal.put_named-requires-clause-numbers
put_named-requires-clause-numbers c =
    let once = c.in-Some.once in
    let is = rw c.in-Some.is at c.in_ok-once.ensures in
    rw c.into_parts-named.ensures (block_has _ _ _ _ once.named is.naming once.parts is.numbers_are)

pub returns : goal.returns
returns c =
    let once = c.in-Some.once in
    let is = rw c.in-Some.is at c.in_ok-once.ensures in
    let told = block_told _ _ _ _ once.named is.naming once.parts is.numbers_are in
    let step = rw c.into_parts-named.ensures at c.put_named.ensures.step in
    rw told at step
