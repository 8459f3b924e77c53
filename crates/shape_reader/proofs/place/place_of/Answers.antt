use Rattle.std.proofs.Common.{◌≡◌, ℕ, List, Some, subst, sym}
use Rattle.std.specs.Prelude.{◌↔◌}
use Rattle.collections.specs.Ordered.{IsAscending}
use Rattle.rdf_model.specs.declared.term.Term.{Term}
use Rattle.rdf_model.specs.Terms.{term_cmp}
use Rattle.shape_reader.specs.Parts.{IsPlace}
use Rattle.shape_reader.proofs.Places.{absent, present}
use Rattle.shape_reader.proofs.place.place_of.Goals as goal

pub returns-in-Ok : goal.returns-in-Ok
returns-in-Ok c =
    let t = c.args.term.now in
    let ascending = subst (λ (ns : List Term). IsAscending term_cmp ns) (sym c.nodes.ensures) c.recall.ensures.nodes in
    subst (λ (ns : List Term). (n : ℕ) → (Some c.in-Ok.place ≡ Some n) ↔ IsPlace ns n t) c.nodes.ensures
    (present t c.nodes.result.now c.in-Ok.place ascending c.in-Ok.ensures.bound (c.in-Ok.ensures.ok t))

pub returns-in-Err : goal.returns-in-Err
returns-in-Err c = λ n.
    let t = c.args.term.now in
    let ascending = subst (λ (ns : List Term). IsAscending term_cmp ns) (sym c.nodes.ensures) c.recall.ensures.nodes in (
      λ e. cc,
      λ h. absurd (absent t c.nodes.result.now c.in-Err.field-0 ascending c.in-Err.ensures.position n (subst (λ (ns : List Term). IsPlace ns n t) (sym c.nodes.ensures) h)),
    )
