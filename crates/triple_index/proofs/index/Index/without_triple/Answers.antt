use Rattle.std.proofs.Common.{◌≡◌, ◌∙◌, ap}
use Rattle.collections.specs.Ordered.{without_item}
use Rattle.triple_index.specs.Keys.{key_cmp, ids_cmp, by_subject, ids_of}
use Rattle.triple_index.proofs.Across.{one_without_as}
use Rattle.triple_index.proofs.Viewed.{viewed_without}
use Rattle.triple_index.proofs.index.Index.without_triple.Goals as goal

pub invariant_of-result : goal.invariant_of-result
invariant_of-result c = one_without_as c.args.triple c.self.inside.subjects c.self.inside.predicates c.self.inside.objects c.remove.new.self c.remove-2.new.self c.remove-3.new.self c.self.invariant
    (c.in_ok-remove.ensures.ok ∙ ap (λ k. without_item key_cmp k c.self.inside.subjects) c.by_subject.ensures)
    (c.in_ok-remove-2.ensures.ok ∙ ap (λ k. without_item key_cmp k c.self.inside.predicates) c.by_predicate.ensures)
    (c.in_ok-remove-3.ensures.ok ∙ ap (λ k. without_item key_cmp k c.self.inside.objects) c.by_object.ensures)

pub returns : goal.returns
returns c =
    let is : c.remove.new.self ≡ without_item key_cmp (by_subject c.args.triple) c.self.inside.subjects = c.in_ok-remove.ensures.ok ∙ ap (λ k. without_item key_cmp k c.self.inside.subjects) c.by_subject.ensures in
    ap ids_of is ∙ viewed_without c.args.triple c.self.inside.subjects ∙ ap (without_item ids_cmp c.args.triple) c.self.view_is
