use Rattle.std.proofs.Common.{◌≡◌, ◌∙◌, List, subst, sym}
use Rattle.rdf_model.specs.declared.ids.Ids.{Ids}
use Rattle.rdf_model.specs.Numbers.{AreNumbered}
use Rattle.triple_index.specs.Changes.{after_ids}
use Rattle.follower.proofs.Changing.{index_after, numbered_after}
use Rattle.follower.specs.Records.{changes_of}
use Rattle.follower.proofs.numbering.index_after.Goals as goal

pub returns-clause-index : goal.returns-clause-index
returns-clause-index c =
    let changes = c.in_ok-changes.changes.items in
    let later : c.apply.new.self ≡ after_ids c.args.index.now changes = c.in_ok-apply.ensures.ok ∙ (λ k. after_ids (c.in_ok-later.ensures k) (c.deref.ensures.value k)) in
    λ g a x. index_after c.args.names.now.terms changes (changes_of c.args.next.now) c.args.index.now c.apply.new.self g c.recall_numbering.ensures c.in_ok-changes.ensures.0 c.in_ok-changes.ensures.1 later c.recall_ascending.ensures a x

pub returns-clause-numbered : goal.returns-clause-numbered
returns-clause-numbered c =
    let changes = c.in_ok-changes.changes.items in
    let later : c.apply.new.self ≡ after_ids c.args.index.now changes = c.in_ok-apply.ensures.ok ∙ (λ k. after_ids (c.in_ok-later.ensures k) (c.deref.ensures.value k)) in
    subst (λ (ids : List Ids). AreNumbered c.args.names.now.terms ids) (sym later) (numbered_after c.args.names.now.terms c.args.index.now changes c.requires.numbered c.in_ok-changes.ensures.0)
