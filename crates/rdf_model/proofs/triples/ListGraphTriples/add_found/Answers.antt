use Rattle.std.proofs.Common.{◌≡◌, ◌∙◌, ℕ, List, ◌++◌, sym, subst, ap, inl, inr}
use Rattle.std.specs.Prelude.{◌⊎◌, ◌↔◌}
use Rattle.std.specs.List.{Contains, filter_map}
use Rattle.std.proofs.lemmas.List.Elements.{Contains-append_cases, Contains-append_left, Contains-append_right}
use Rattle.rdf_model.specs.declared.ids.Ids.{Ids}
use Rattle.rdf_model.specs.Numbers.{IsFound, number_in}
use Rattle.rdf_model.proofs.Finding.{found_is}
use Rattle.rdf_model.proofs.triples.ListGraphTriples.add_found.Goals as goal

pub returns-clause-found : goal.returns-clause-found
returns-clause-found c n =
    let triples = c.args.self.now in
    let old = c.args.found.now.items in
    let more = filter_map (number_in c.args.look.now) triples in
    let e : c.add_all_found.new.found.items ≡ old ++ more = c.in_ok-add_all_found.ensures.found ∙ ap (λ (l : List Ids). old ++ filter_map (number_in c.args.look.now) l) (c.as_slice.ensures ∙ c.self.view_is) in
    let is = found_is c.args.look.now triples n in
    subst (λ (xs : List ℕ). Contains xs n ↔ (Contains old n ⊎ IsFound c.args.look.now triples n)) (sym e) (
      λ i. elim (Contains-append_cases old more n i) [ inl d ↦ inl d | inr d ↦ inr (is.0 d) ],
      elim [ inl d ↦ Contains-append_left old more n d | inr d ↦ Contains-append_right old more n (is.1 d) ],
    )
