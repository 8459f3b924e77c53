use Rattle.std.proofs.Common.{◌≡◌, ◌∙◌, ℕ, List, ◌++◌, ap, length, map, rules, subst, sym, vec_len}
use Rattle.collections.proofs.Kept.{always_on_err}
use Rattle.rdf_model.specs.declared.ids.Ids.{Ids}
use Rattle.rdf_model.specs.declared.term.Term.{Term}
use Rattle.triple_index.specs.declared.change.NumberedChange.{NumberedChange}
use Rattle.numbered_lists.specs.Appending.{changed_as}
use Rattle.numbered_lists.proofs.Appended.{AreChanges, are_appended, changes_appended, changes_at, changes_longer, shifted_as}
use Rattle.numbered_lists.proofs.net.Net.append.Goals as goal

pub returns-in_err-put_behind-2-clause-err : goal.returns-in_err-put_behind-2-clause-err
returns-in_err-put_behind-2-clause-err c =
    let us = c.self.inside.terms.items in
    let cs = c.self.inside.changes.items in
    let vs = c.into_parts-terms.result.0.items in
    let now = c.put_behind.new.items.items in
    always_on_err c.from_residual-in_err-put_behind-2.result
    (ap (λ (ds : List NumberedChange). changes_at now ds) c.in_err-put_behind-2.ensures.err
    ∙ ap (λ (ts : List Term). changes_at ts cs) c.in_ok-put_behind.ensures.ok
    ∙ changes_longer us vs cs c.self.invariant
    ∙ c.self.view_is)

pub invariant_of-self-2 : goal.invariant_of-self-2
invariant_of-self-2 c =
    let us = c.self.inside.terms.items in
    let cs = c.self.inside.changes.items in
    let vs = c.into_parts-terms.result.0.items in
    let ids = c.into_parts-terms.result.1.items in
    let removes = c.args.removes in
    let many : vec_len c.self.inside.terms ≡ length us = search rules in
    let count : c.in_ok-count.count ≡ length us = c.in_ok-count.ensures.0 ∙ c.len.ensures ∙ many in
    let all : c.put_behind-2.new.items.items ≡ cs ++ shifted_as removes (length us) ids =
    c.in_ok-put_behind-2.ensures.ok ∙ ap (λ (ds : List NumberedChange). cs ++ ds) (c.in_ok-more.ensures ∙ ap (λ (is : List Ids). shifted_as removes c.in_ok-count.count is) c.deref.ensures.value ∙ ap (λ (n : ℕ). shifted_as removes n ids) count) in
    subst (λ (ts : List Term). AreChanges ts c.put_behind-2.new.items.items) (sym c.in_ok-put_behind.ensures.ok)
    (subst (λ (ds : List NumberedChange). AreChanges (us ++ vs) ds) (sym all)
    (are_appended removes us vs cs ids c.self.invariant c.into_parts-terms.ensures.numbered))

pub returns-clause-ok : goal.returns-clause-ok
returns-clause-ok c =
    let us = c.self.inside.terms.items in
    let cs = c.self.inside.changes.items in
    let vs = c.into_parts-terms.result.0.items in
    let ids = c.into_parts-terms.result.1.items in
    let removes = c.args.removes in
    let many : vec_len c.self.inside.terms ≡ length us = search rules in
    let count : c.in_ok-count.count ≡ length us = c.in_ok-count.ensures.0 ∙ c.len.ensures ∙ many in
    let all : c.put_behind-2.new.items.items ≡ cs ++ shifted_as removes (length us) ids =
    c.in_ok-put_behind-2.ensures.ok ∙ ap (λ (ds : List NumberedChange). cs ++ ds) (c.in_ok-more.ensures ∙ ap (λ (is : List Ids). shifted_as removes c.in_ok-count.count is) c.deref.ensures.value ∙ ap (λ (n : ℕ). shifted_as removes n ids) count) in
    let is = c.self.view_is in
    let listed = c.into_parts-terms.ensures.triples in
    ap (λ (ts : List Term). changes_at ts c.put_behind-2.new.items.items) c.in_ok-put_behind.ensures.ok
    ∙ ap (λ (ds : List NumberedChange). changes_at (us ++ vs) ds) all
    ∙ changes_appended removes us vs cs ids c.self.invariant
    ∙ (λ i. is i ++ map (changed_as removes) (listed i))
