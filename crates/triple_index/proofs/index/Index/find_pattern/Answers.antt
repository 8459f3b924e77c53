use Rattle.std.proofs.Common.{◌≡◌, ◌∙◌, List, ap, sym, subst}
use Rattle.std.specs.Prelude.{filter, map}
use Rattle.rdf_model.specs.declared.ids.Ids.{Ids}
use Rattle.triple_index.specs.declared.key.Key.{Key}
use Rattle.triple_index.specs.Rotations.{from_order}
use Rattle.triple_index.specs.Patterns.{ListsOnce, IsMatch, matches_ids, begins_with}
use Rattle.triple_index.proofs.Matching.{matching_listed}
use Rattle.triple_index.proofs.index.Index.find_pattern.Goals as goal

pub returns : goal.returns
returns c =
    let order = c.place-order.result.0 in
    let prefix = c.place-order.result.1 in
    let is : c.in_ok-all_asked.field-0.items ≡ filter (matches_ids c.args.subject c.args.predicate c.args.object) (map (from_order order) (filter (begins_with prefix) c.keys_in.result.now)) = c.in_ok-all_asked.ensures ∙ ap (λ (ks : List Key). filter (matches_ids c.args.subject c.args.predicate c.args.object) (map (from_order order) ks)) (c.deref.ensures.value ∙ c.in_ok-keys.ensures) in
    subst (λ (found : List Ids). ListsOnce (IsMatch c.args.subject c.args.predicate c.args.object c.args.self.now) found) (sym is)
    (matching_listed order c.args.subject c.args.predicate c.args.object prefix c.place-order.ensures c.args.self.now c.keys_in.result.now c.keys_in.ensures.ascending c.keys_in.ensures.same)
