use Rattle.std.proofs.Common.{◌≡◌, sym, subst, []}
use Rattle.std.proofs.lemmas.List.{append-nil}
use Rattle.rdf_model.specs.declared.term.Term.{Term}
use Rattle.rdf_model.specs.Numbers.{term_at}
use Rattle.shape_model.specs.Components.{found_at}
use Rattle.component_rows.specs.Sites.{site_row}
use Rattle.component_rows.proofs.Collecting.{collects_none}
use Rattle.component_rows.proofs.value_test.add_failing.Goals as goal

pub returns-then-passes : goal.returns-then-passes
returns-then-passes g c =
    let s = c.args.site.now in
    let term = term_at s.terms c.args.value in (
      [],
      sym (append-nil c.args.rows.now.items),
      collects_none (λ r. (g.T.ValueTest.accepts c.args.test.now term → ⊥) × (r ≡ site_row c.args.component s (found_at term)))
          (λ r h. h.0 (subst (λ (t : Term). g.T.ValueTest.accepts c.args.test.now t) c.named-term.ensures (c.passes.ensures.0 c.if-passes.true))),
    )
