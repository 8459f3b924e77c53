use Rattle.std.proofs.Common.{◌≡◌, ◌∙◌, ap}
use Rattle.collections.specs.Ordered.{with_item}
use Rattle.triple_index.specs.Keys.{key_cmp, ids_cmp, by_subject, ids_of}
use Rattle.triple_index.proofs.Across.{one_with_as}
use Rattle.triple_index.proofs.Viewed.{viewed_with}
use Rattle.triple_index.proofs.index.Index.with_triple.Goals as goal

pub invariant_of-result : goal.invariant_of-result
invariant_of-result c = one_with_as c.args.triple c.self.inside.subjects c.self.inside.predicates c.self.inside.objects c.insert.new.self c.insert-2.new.self c.insert-3.new.self c.self.invariant
    (c.in_ok-insert.ensures.ok ∙ ap (λ k. with_item key_cmp k c.self.inside.subjects) c.by_subject.ensures)
    (c.in_ok-insert-2.ensures.ok ∙ ap (λ k. with_item key_cmp k c.self.inside.predicates) c.by_predicate.ensures)
    (c.in_ok-insert-3.ensures.ok ∙ ap (λ k. with_item key_cmp k c.self.inside.objects) c.by_object.ensures)

pub returns : goal.returns
returns c =
    let is : c.insert.new.self ≡ with_item key_cmp (by_subject c.args.triple) c.self.inside.subjects = c.in_ok-insert.ensures.ok ∙ ap (λ k. with_item key_cmp k c.self.inside.subjects) c.by_subject.ensures in
    ap ids_of is ∙ viewed_with c.args.triple c.self.inside.subjects ∙ ap (with_item ids_cmp c.args.triple) c.self.view_is
