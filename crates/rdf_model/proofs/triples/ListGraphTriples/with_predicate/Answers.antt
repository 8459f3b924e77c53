use Rattle.std.proofs.Common.{◌≡◌, ◌∙◌, ℕ, List, sym, subst, ap}
use Rattle.std.specs.Prelude.{◌↔◌}
use Rattle.std.specs.List.{Contains, filter_map}
use Rattle.collections.specs.Pairs.{pair_cmp}
use Rattle.rdf_model.specs.Numbers.{IsJoined, pair_in}
use Rattle.rdf_model.proofs.Finding.{joined_is, listing_same}
use Rattle.rdf_model.proofs.triples.ListGraphTriples.with_predicate.Goals as goal

pub returns : goal.returns
returns c =
    let triples = c.args.self.now in
    let e : c.in_ok-pairs.pairs.items ≡ filter_map (pair_in c.args.predicate) triples = c.in_ok-pairs.ensures ∙ ap (filter_map (pair_in c.args.predicate)) (c.as_slice.ensures ∙ c.self.view_is) in
    listing_same pair_cmp (Contains c.in_ok-pairs.pairs.items) (IsJoined triples c.args.predicate) _
    (λ e'. subst (λ (xs : List (ℕ × ℕ)). Contains xs e' ↔ IsJoined triples c.args.predicate e') (sym e) (joined_is c.args.predicate triples e'))
    c.in_ok-sorted_once.ensures
