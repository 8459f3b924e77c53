use Rattle.std.proofs.Common.{◌≡◌, ◌∙◌, ℕ, [], List, refl, subst, sym}
use Rattle.rdf_model.specs.declared.term.Term.{Term}
use Rattle.store_model.specs.Nodes.{unknown_by}
use Rattle.store_model.specs.Store.{RecordedStore}
use Rattle.term_dict.specs.Names.{AreNumbersOf}
use Rattle.commit_core.specs.Commits.{data_of}
use Rattle.commit_core.specs.Naming.{IsNaming}
use Rattle.commit_core.proofs.Consistency.{consistent_full, takes_full}
use Rattle.commit_core.proofs.NamedTerms.{block_has, block_own, block_told}
use Rattle.commit_core.proofs.store.Core.name_known.Goals as goal

pub put_named-requires-clause-known : goal.put_named-requires-clause-known
put_named-requires-clause-known c =
    let named = c.in-Ok.named in
    let kept = c.from_vec.ensures ∙ c.in_ok-kept-in-Ok.ensures.items ∙ c.deref.ensures.value in
    let are = subst (λ (ns : List ℕ). AreNumbersOf named.graph.terms c.args.terms.now ns) (sym kept) c.in-Ok.ensures.numbers in
    subst (λ (ts : List Term). unknown_by c.args.kind c.args.self.now.state.given ts ≡ []) (sym (block_told _ _ _ _ named c.in-Ok.ensures.named c.from_vec.result are)) c.requires.known

pub put_named-requires-clause-named : goal.put_named-requires-clause-named
put_named-requires-clause-named c =
    let named = c.in-Ok.named in
    let kept = c.from_vec.ensures ∙ c.in_ok-kept-in-Ok.ensures.items ∙ c.deref.ensures.value in
    let are = subst (λ (ns : List ℕ). AreNumbersOf named.graph.terms c.args.terms.now ns) (sym kept) c.in-Ok.ensures.numbers in
    let own = subst (λ (o : RecordedStore). IsNaming c.args.kind (data_of o) o.state.given c.args.terms.now named) c.self.view_is c.in-Ok.ensures.named in
    subst (λ (ts : List Term). IsNaming c.args.kind (data_of c.args.self.now) c.args.self.now.state.given ts named) (sym (block_told _ _ _ _ named c.in-Ok.ensures.named c.from_vec.result are)) own

pub put_named-requires-clause-numbers : goal.put_named-requires-clause-numbers
put_named-requires-clause-numbers c =
    let named = c.in-Ok.named in
    let kept = c.from_vec.ensures ∙ c.in_ok-kept-in-Ok.ensures.items ∙ c.deref.ensures.value in
    block_has _ _ _ _ named c.in-Ok.ensures.named c.from_vec.result (subst (λ (ns : List ℕ). AreNumbersOf named.graph.terms c.args.terms.now ns) (sym kept) c.in-Ok.ensures.numbers)

pub returns-in_ok-kept-in-Ok-clause-step : goal.returns-in_ok-kept-in-Ok-clause-step
returns-in_ok-kept-in-Ok-clause-step c =
    let named = c.in-Ok.named in
    let kept = c.from_vec.ensures ∙ c.in_ok-kept-in-Ok.ensures.items ∙ c.deref.ensures.value in
    let are = subst (λ (ns : List ℕ). AreNumbersOf named.graph.terms c.args.terms.now ns) (sym kept) c.in-Ok.ensures.numbers in
    let told = block_told _ _ _ _ named c.in-Ok.ensures.named c.from_vec.result are in
    rw told at c.put_named.ensures.step

pub returns-in_ok-kept-in-Ok-clause-numbers : goal.returns-in_ok-kept-in-Ok-clause-numbers
returns-in_ok-kept-in-Ok-clause-numbers c =
    let named = c.in-Ok.named in
    rw c.put_named.ensures.named (block_own _ _ _ _ named c.in-Ok.ensures.named c.in-Ok.numbers.items c.in-Ok.ensures.numbers c.self.invariant.0.sound.numbering)

pub invariant_of-self : goal.invariant_of-self
invariant_of-self c =
    let cause = rw c.in-Err-Full.field-0-is at c.in-Err-Full.ensures.cause in
    rw (c.push.ensures, c.in_ok-asked-in-Err-Full.ensures) (consistent_full _ c.self.inside.graph c.self.inside.graph _ _ _ _ _ _ _ _ _ _ c.self.invariant.0 c.self.view_is c.requires.opened c.requires.known c.in-Err-Full.count refl cause, c.self.invariant.1, c.self.invariant.2)

pub returns-in_ok-asked-in-Err-Full-clause-step : goal.returns-in_ok-asked-in-Err-Full-clause-step
returns-in_ok-asked-in-Err-Full-clause-step c =
    let cause = rw c.in-Err-Full.field-0-is at c.in-Err-Full.ensures.cause in
    rw (c.push.ensures, c.in_ok-asked-in-Err-Full.ensures) (takes_full _ c.self.inside.graph c.self.inside.graph _ _ _ _ _ _ _ _ _ _ c.self.invariant.0 c.self.view_is c.requires.opened c.requires.known c.in-Err-Full.count refl cause)
