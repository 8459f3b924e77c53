use Rattle.std.proofs.Common.{◌≡◌, ◌∙◌, List, ap, sym, subst}
use Rattle.std.specs.List.{Contains}
use Rattle.collections.specs.Ordered.{has_item}
use Rattle.rdf_model.specs.declared.ids.Ids.{Ids}
use Rattle.triple_index.specs.Keys.{key_cmp, by_subject}
use Rattle.triple_index.proofs.Listings.{stands_found, found_stands, ids_stood, ids_stand}
use Rattle.triple_index.proofs.find.IndexTriples.contains.Goals as goal

pub returns : goal.returns
returns c =
    let keys = c.self.inside.subjects in
    let is : c.contains.result ≡ has_item key_cmp (by_subject c.args.triple) keys = c.contains.ensures ∙ ap (λ k. has_item key_cmp k keys) c.by_subject.ensures in (
      λ e. subst (λ (ids : List Ids). Contains ids c.args.triple) c.self.view_is (ids_stand keys c.args.triple (stands_found (by_subject c.args.triple) keys (sym is ∙ e))),
      λ d. is ∙ found_stands (by_subject c.args.triple) keys (ids_stood keys c.args.triple (subst (λ (ids : List Ids). Contains ids c.args.triple) (sym c.self.view_is) d)),
    )
