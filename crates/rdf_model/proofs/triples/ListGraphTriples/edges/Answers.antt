use Rattle.std.proofs.Common.{◌≡◌, ◌∙◌, ℕ, List, sym, subst, ap}
use Rattle.std.specs.Prelude.{◌↔◌}
use Rattle.std.specs.List.{Contains, filter_map}
use Rattle.collections.specs.Pairs.{pair_cmp}
use Rattle.rdf_model.specs.Numbers.{IsEdge, edge_in}
use Rattle.rdf_model.proofs.Finding.{edge_is, listing_same}
use Rattle.rdf_model.proofs.triples.ListGraphTriples.edges.Goals as goal

pub returns : goal.returns
returns c =
    let triples = c.args.self.now in
    let e : c.in_ok-edges.edges.items ≡ filter_map (edge_in c.args.subject) triples = c.in_ok-edges.ensures ∙ ap (filter_map (edge_in c.args.subject)) (c.as_slice.ensures ∙ c.self.view_is) in
    listing_same pair_cmp (Contains c.in_ok-edges.edges.items) (IsEdge triples c.args.subject) _
    (λ e'. subst (λ (xs : List (ℕ × ℕ)). Contains xs e' ↔ IsEdge triples c.args.subject e') (sym e) (edge_is c.args.subject triples e'))
    c.in_ok-sorted_once.ensures
