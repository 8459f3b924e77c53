use Rattle.std.proofs.Common.{◌≡◌, ◌∙◌, ℕ, List, ◌++◌, sym, subst, ap, inl, inr}
use Rattle.std.specs.Prelude.{◌⊎◌, ◌↔◌}
use Rattle.std.specs.List.{Contains}
use Rattle.std.proofs.lemmas.List.Elements.{Contains-append_cases, Contains-append_left, Contains-append_right}
use Rattle.rdf_model.specs.Numbers.{IsFound}
use Rattle.overlay_view.specs.Overlays.{overlaid}
use Rattle.overlay_view.proofs.overlay.OverlayTriples.add_found.Goals as goal

pub returns-clause-found : goal.returns-clause-found
returns-clause-found g c n =
    let old = c.args.found.now.items in
    let more = c.in_ok-more.more.items in
    let e : c.extend_from_slice.new.self.items ≡ old ++ more = c.in_ok-extend_from_slice.ensures.items ∙ ap (λ (l : List ℕ). old ++ l) c.deref.ensures.value in
    let is = c.in_ok-more.ensures.members n in
    subst (λ (xs : List ℕ). Contains xs n ↔ (Contains old n ⊎ IsFound c.args.look.now (overlaid (g.R.Triples.triples c.args.self.now.base.now) c.args.self.now.added c.args.self.now.removed) n)) (sym e) (
      λ i. elim (Contains-append_cases old more n i) [ inl d ↦ inl d | inr d ↦ inr (is.0 d) ],
      elim [ inl d ↦ Contains-append_left old more n d | inr d ↦ Contains-append_right old more n (is.1 d) ],
    )
