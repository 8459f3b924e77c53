use Rattle.std.proofs.Common.{◌≡◌, ◌∙◌, ◌++◌, ℕ, List, sym, subst, ap}
use Rattle.std.specs.Prelude.{◌↔◌}
use Rattle.std.specs.List.{Contains, filter_map}
use Rattle.std.specs.Ordering.{nat_cmp}
use Rattle.rdf_model.specs.Numbers.{IsFound, number_in}
use Rattle.rdf_model.proofs.Finding.{found_is, listing_same}
use Rattle.rdf_model.proofs.triples.ListGraphTriples.find.Goals as goal

pub returns : goal.returns
returns c =
    let triples = c.args.self.now in
    let e : c.add_all_found.new.found.items ≡ filter_map (number_in c.args.look.now) triples = c.in_ok-add_all_found.ensures.found ∙ (ap (λ (xs : List ℕ). xs ++ filter_map (number_in c.args.look.now) c.as_slice.result.now) c.new-found.ensures.items ∙ ap (filter_map (number_in c.args.look.now)) (c.as_slice.ensures ∙ c.self.view_is)) in
    listing_same nat_cmp (Contains c.add_all_found.new.found.items) (IsFound c.args.look.now triples) _
    (λ n. subst (λ (xs : List ℕ). Contains xs n ↔ IsFound c.args.look.now triples n) (sym e) (found_is c.args.look.now triples n))
    c.in_ok-sorted_once.ensures
